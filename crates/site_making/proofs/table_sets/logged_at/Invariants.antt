-- Gathering the tables that a master logs.
use Rattle.world_state.specs.Making.{is_logged}
use Rattle.site_making.proofs.TablesMarked.{AreThoseBelow}
use Rattle.site_making.proofs.table_sets.logged_at.Given as goal

-- the tables so far are those that it logs
abbrev pub invariant-loop-table : goal.invariant-loop-table
invariant-loop-table l = AreThoseBelow (is_logged l.sites l.snapshots l.master) l.table l.numbers.items
