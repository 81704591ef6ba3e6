-- A table looked through from the front.
use Rattle.std.proofs.Common.{◌≡◌, drop}
use Rattle.script_words.specs.Words.{chosen, entries}
use Rattle.script_words.proofs.chosen.chosen.Given as goal

abbrev pub invariant-loop-word : goal.invariant-loop-word
invariant-loop-word g l = chosen (entries (drop l.word-index l.table)) l.written ≡ chosen (entries l.table) l.written
