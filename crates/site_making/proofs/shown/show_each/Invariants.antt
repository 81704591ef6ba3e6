-- Making the snapshots of a site.
use Rattle.std.proofs.Common.{◌≡◌, ◌++◌, drop}
use Rattle.site_state.specs.Refreshes.{with_tables}
use Rattle.site_events.specs.Rules.{rows_ruled}
use Rattle.world_state.specs.Making.{snapshots_at}
use Rattle.site_making.proofs.shown.show_each.Given as goal

-- the snapshots so far and those to come; the rows of those to come make the tables what they are with all
abbrev pub invariant-loop-declared : goal.invariant-loop-declared
invariant-loop-declared l = record {
  made : snapshots_at l.snapshots l.site ≡ l.made ++ snapshots_at (drop l.declared-index l.snapshots) l.site;
  tables : with_tables (rows_ruled l.filled.schema l.filled.tables (snapshots_at l.snapshots l.site)) l.fn.store.tables
      ≡ with_tables (rows_ruled l.filled.schema l.filled.tables (snapshots_at (drop l.declared-index l.snapshots) l.site)) l.store.tables;
  schema : l.store.schema ≡ l.fn.store.schema;
}
