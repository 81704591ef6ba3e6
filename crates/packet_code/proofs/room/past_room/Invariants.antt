-- The masters looked through from the front.
use Rattle.std.proofs.Common.{drop}
use Rattle.std.specs.Prelude.{◌↔◌}
use Rattle.packet_code.specs.Texts.{PastHasForm}
use Rattle.packet_code.proofs.room.past_room.Given as goal

-- what is left decides
abbrev pub invariant-loop-seen : goal.invariant-loop-seen
invariant-loop-seen l = PastHasForm l.past ↔ PastHasForm (drop l.seen-index l.past)
