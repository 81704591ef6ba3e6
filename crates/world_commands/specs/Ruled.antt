-- What it takes to make the rows of snapshots by their master's logs, where they may have parents.
use Rattle.std.specs.Prelude.{◌≡◌, ◌<◌, List, length, Option, Some, None}
use Rattle.std.specs.List.{AllByRecursion}
use Rattle.rep_lists.specs.Rising.{IsRising}
use Rattle.rep_values.specs.Order.{key_cmp}
use Rattle.rep_schema.specs.declared.schema.Schema.{Schema}
use Rattle.rep_schema.specs.Tables.{Rows, columns_of, rows_of, AreTables}
use Rattle.snapshot_query.specs.declared.query.Query.{Query}
use Rattle.snapshot_query.specs.declared.parent.Parent.{Parent}
use Rattle.snapshot_query.specs.declared.snapshot.Snapshot.{Snapshot}
use Rattle.snapshot_query.specs.Parents.{picks}
use Rattle.change_logs.specs.LogState.{LogState}
use Rattle.site_state.specs.Fits.{SchemaIsKeyed}
use Rattle.site_events.specs.Rules.{pending_parents, IsParentWithin}
use Rattle.refreshes.specs.Showing.{ShowsOthers}
use Rattle.event_laws.specs.WaitingRows.{outdated_keys}
use Rattle.subquery_snapshots.specs.declared.rule.Rule.{Rule}
use Rattle.subquery_snapshots.specs.declared.rule.Rule.TheVariants as rules

-- a rule is that of a query and a parent
abbrev pub IsRuleOf : Query → Option Parent → Rule → Type 0
IsRuleOf query None (rules.Whole own) = own.now ≡ query
IsRuleOf query None (rules.Parent parent) = ⊥
IsRuleOf query (Some p) (rules.Whole own) = ⊥
IsRuleOf query (Some p) (rules.Parent parent) = parent.now ≡ p

-- master and site have tables of one schema, a snapshot and its parents are of these, its pending parents rise, and its own table
-- has what it shows of the master's row under each up-to-date key
pub record CanRenew (schema : Schema) (logs : List LogState) (master_schema : Schema) (master own : List Rows) (s : Snapshot) : Type 0 where
  pub keyed : SchemaIsKeyed schema
  pub same : master_schema ≡ schema
  pub tables : AreTables schema master
  pub older : AreTables schema own
  pub within : s.table < length schema.tables
  pub parents : IsParentWithin schema s.parent
  pub rising : IsRising key_cmp (pending_parents logs s)
  pub others : ShowsOthers (columns_of schema s.table) (picks schema master s) (outdated_keys schema logs master s) (rows_of master s.table) (rows_of own s.table)

abbrev pub CanRenewEach : Schema → List LogState → Schema → List Rows → List Rows → List Snapshot → Type 0
CanRenewEach schema logs master_schema master own snapshots = AllByRecursion (CanRenew schema logs master_schema master own) snapshots
