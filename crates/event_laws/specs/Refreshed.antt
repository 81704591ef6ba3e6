-- What a refresh leaves at a site, whatever the site was before.
use Rattle.std.specs.Prelude.{◌≡◌, ◌≢◌, ℕ, List, [], length}
use Rattle.std.specs.List.{AllByRecursion}
use Rattle.rep_schema.specs.declared.schema.Schema.{Schema}
use Rattle.rep_schema.specs.Tables.{Rows, rows_of}
use Rattle.snapshot_query.specs.declared.snapshot.Snapshot.{Snapshot}
use Rattle.snapshot_query.specs.Parents.{rule_rows}
use Rattle.site_state.specs.State.{SiteState}
use Rattle.site_state.specs.Contents.{tables_of}
use Rattle.site_state.specs.Refreshes.{site_refresh}
use Rattle.site_state.specs.Fits.{SnapshotsApart, AreWithin}
use Rattle.site_events.specs.Rules.{rows_ruled}

-- a snapshot's table has the rows that it picks of the master's, its mark is a moment, and nothing is touched
pub record IsRuled (schema : Schema) (master : List Rows) (moment : ℕ) (tables : List Rows) (s : Snapshot) : Type 0 where
  pub rows : rows_of tables s.table ≡ rule_rows schema master s
  pub mark : s.mark ≡ moment
  pub touched : s.touched ≡ []

-- so it is with each snapshot of the site that x became, and its other tables are as they were
pub record ShowsTables (master : List Rows) (moment : ℕ) (x y : SiteState) : Type 0 where
  pub ruled : AllByRecursion (IsRuled y.schema master moment (tables_of y)) y.snapshots
  pub others : (table : ℕ) → AllByRecursion (λ (s : Snapshot). s.table ≢ table) x.snapshots → rows_of (tables_of y) table ≡ rows_of (tables_of x) table

-- a site with as many tables as its schema, of which no two snapshots are of one table, shows a master's tables when it has got the
-- rows that its snapshots pick of them
abbrev pub RefreshedTablesAreTheRules : Type 0
RefreshedTablesAreTheRules = (x : SiteState) (master : List Rows) (moment : ℕ) → length (tables_of x) ≡ length x.schema.tables → AreWithin x.schema x.snapshots → SnapshotsApart x.snapshots
    → ShowsTables master moment x (site_refresh (rows_ruled x.schema master x.snapshots) moment x)
