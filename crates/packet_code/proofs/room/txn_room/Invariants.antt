-- The calls looked through from the front.
use Rattle.std.proofs.Common.{drop}
use Rattle.std.specs.Prelude.{◌↔◌}
use Rattle.std.specs.List.{AllByRecursion}
use Rattle.packet_code.specs.Texts.{CallHasTextForm}
use Rattle.packet_code.proofs.room.txn_room.Given as goal

-- what is left decides
abbrev pub invariant-loop-call : goal.invariant-loop-call
invariant-loop-call l = AllByRecursion CallHasTextForm l.txn.calls ↔ AllByRecursion CallHasTextForm (drop l.call-index l.txn.calls)
