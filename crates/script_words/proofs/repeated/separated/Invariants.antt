-- Parts behind marks, read one by one.
use Rattle.std.proofs.Common.{◌≡◌, ◌-◌, List, false}
use Rattle.script_words.specs.Words.{is_mark}
use Rattle.script_words.specs.Reading.{many, after, separated, with_found}
use Rattle.script_words.proofs.repeated.separated.Given as goal

-- the parts found so far and those that are left are those of the start, and all found ones are kept unless memory lacks
abbrev pub invariant-loop : goal.invariant-loop
invariant-loop g l =
    (found : List _)
    × (with_found found (many (is_mark l.word) (after l.word g.P.Part.reading) (l.end - l.counter) l.tokens) ≡ separated l.word g.P.Part.reading l.fn.tokens)
    × (l.lacks ≡ false → l.found ≡ found)
