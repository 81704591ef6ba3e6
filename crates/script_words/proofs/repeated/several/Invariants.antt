-- Parts read one by one.
use Rattle.std.proofs.Common.{◌≡◌, ◌-◌, List, false}
use Rattle.script_words.specs.Reading.{many, several, with_found}
use Rattle.script_words.proofs.repeated.several.Given as goal

-- the parts found so far and those that are left are those of the start, and all found ones are kept unless memory lacks
abbrev pub invariant-loop : goal.invariant-loop
invariant-loop g l =
    (found : List _)
    × (with_found found (many g.P.Part.starts g.P.Part.reading (l.most - l.counter) l.tokens) ≡ several g.P.Part.starts g.P.Part.reading l.initial.tokens)
    × (l.lacks ≡ false → l.found ≡ found)
