-- Putting words one by one.
use Rattle.std.proofs.Common.{◌≡◌, ◌≤◌, ◌+◌, ◌++◌, drop, map, length}
use Rattle.report_text.specs.Sheet.{word_text, most_spaced, spaced}
use Rattle.report_text.proofs.lines.Lines.put_words.Given as goal

-- the words so far and those to come are the whole text, and there is room for those to come
abbrev pub invariant-loop-word : goal.invariant-loop-word
invariant-loop-word l = record {
  text : l.self.bytes ++ spaced (map word_text (drop l.word-index l.words)) ≡ l.fn.self.bytes ++ spaced (map word_text l.words);
  room : l.fn.self.room + length l.fn.self.bytes ≤ l.self.room + length l.self.bytes;
  enough : most_spaced (drop l.word-index l.words) ≤ l.self.room;
  spent : l.fn.self.room + most_spaced (drop l.word-index l.words) ≤ l.self.room + most_spaced l.words;
}
