-- Tables with what snapshots show of other tables are tables. Without parents snapshots show what their queries pick.
use Rattle.std.proofs.Common.{◌≡◌, List, [], ◌∷◌, ◌++◌, set, Bool, true, false, None, refl, ap, ◌∙◌, arith}
use Rattle.std.specs.Prelude.{◌||◌, ◌+◌, Option, filter, length}
use Rattle.rep_schema.specs.declared.schema.Schema.{Schema}
use Rattle.rep_schema.specs.Tables.{Rows, rows_of, AreTables}
use Rattle.rep_schema.proofs.TableSteps.{AreTables-set}
use Rattle.rep_schema.proofs.FilteredRows.{IsTable-filter}
use Rattle.snapshot_query.specs.declared.parent.Parent.{Parent}
use Rattle.snapshot_query.specs.declared.snapshot.Snapshot.{Snapshot}
use Rattle.snapshot_query.specs.Parents.{picks, picks_by, rule_rows}
use Rattle.site_state.specs.declared.rows.TableRows.{TableRows}
use Rattle.change_logs.specs.LogState.{LogState}
use Rattle.change_logs.specs.Noting.{pending_keys, is_too_young}
use Rattle.site_state.specs.Refreshes.{rows_shown, with_tables}
use Rattle.site_state.specs.Fits.{AreWithin}
use Rattle.site_events.specs.Rules.{rows_ruled, parents_above, is_purged_above, is_young, looked_up, HaveNoParents, QueriesAreRules}

pub AreTables-rows_ruled : (schema : Schema) (shows : List Rows) (ss : List Snapshot) (tables : List Rows) → AreTables schema shows → AreWithin schema ss → AreTables schema tables
    → AreTables schema (with_tables (rows_ruled schema shows ss) tables)
AreTables-rows_ruled schema shows [] tables from within are = are
AreTables-rows_ruled schema shows (s ∷ ss) tables from within are =
    AreTables-rows_ruled schema shows ss (set tables s.table (rule_rows schema shows s)) from within.1
    (AreTables-set schema tables s.table (rule_rows schema shows s) are (IsTable-filter schema s.table (picks schema shows s) (rows_of shows s.table) (from.each s.table within.0)))

pub rows_ruled-none : (schema : Schema) (tables : List Rows) (ss : List Snapshot) → HaveNoParents ss → rows_ruled schema tables ss ≡ rows_shown tables ss
rows_ruled-none schema tables [] none = refl
rows_ruled-none schema tables (s ∷ ss) none =
    ap (λ (p : Option Parent). record { table = s.table; rows = filter (picks_by schema tables s.query p) (rows_of tables s.table) } ∷ rows_ruled schema tables ss) none.0
    ∙ ap (λ (ts : List TableRows). rows_shown tables (s ∷ []) ++ ts) (rows_ruled-none schema tables ss none.1)

pub is_young-none : (logs : List LogState) (s : Snapshot) → s.parent ≡ None → is_young logs s ≡ is_too_young logs s
is_young-none logs s none = ap (λ (p : Option Parent). is_too_young logs s || is_purged_above logs s.mark p) none ∙ or_false (is_too_young logs s)
  where
    or_false : (b : Bool) → (b || false) ≡ b
    or_false true = refl
    or_false false = refl

pub looked_up-none : (logs : List LogState) (s : Snapshot) → s.parent ≡ None → looked_up logs s ≡ length (pending_keys logs s)
looked_up-none logs s none = ap (λ (p : Option Parent). length (pending_keys logs s) + length (parents_above logs s.mark p)) none ∙ omega arith

pub queries_are_rules : QueriesAreRules
queries_are_rules = record {
  rows = rows_ruled-none;
  young = is_young-none;
  counted = looked_up-none;
}
