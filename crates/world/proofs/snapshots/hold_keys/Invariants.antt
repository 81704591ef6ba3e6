-- Comparing columns with key columns one by one.
use Rattle.std.proofs.Common.{◌≡◌, length}
use Rattle.rep_schema.specs.Tables.{key_columns}
use Rattle.world_state.specs.Refusals.{hold_keys}
use Rattle.world.proofs.snapshots.hold_keys.Given as goal

-- what is left decides
abbrev pub invariant-loop-parents_left : goal.invariant-loop-parents_left
invariant-loop-parents_left l = hold_keys l.columns l.names (key_columns l.parents) ≡ hold_keys l.columns l.names_left (key_columns l.parents_left)

abbrev pub decreases-loop-parents_left : goal.decreases-loop-parents_left
decreases-loop-parents_left l = length l.parents_left
