-- Adding turns one by one.
use Rattle.std.proofs.Common.{◌≡◌, ◌++◌, drop}
use Rattle.std.specs.Prelude.{flat_map}
use Rattle.live_report.specs.PartTexts.{turn_line}
use Rattle.live_report.proofs.turns.add_turns.Given as goal

-- the turns so far and those to come are all of them
abbrev pub invariant-loop-turn : goal.invariant-loop-turn
invariant-loop-turn l = l.lines.bytes ++ flat_map turn_line (drop l.turn-index l.turns) ≡ l.fn.lines.bytes ++ flat_map turn_line l.turns
