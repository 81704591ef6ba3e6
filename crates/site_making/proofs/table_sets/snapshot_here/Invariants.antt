-- Gathering the tables that a snapshot site holds.
use Rattle.world_state.specs.Declaring.{has_snapshot}
use Rattle.site_making.proofs.TablesMarked.{AreThoseBelow}
use Rattle.site_making.proofs.table_sets.snapshot_here.Given as goal

-- the tables so far are those of its snapshots
abbrev pub invariant-loop-table : goal.invariant-loop-table
invariant-loop-table l = AreThoseBelow (has_snapshot l.snapshots l.site) l.table l.numbers.items
