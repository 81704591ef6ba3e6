-- The rows that a refresh brings to a snapshot site are its master's.
use Rattle.std.proofs.Common.{◌≡◌, ◌≢◌, ℕ, ◌<◌, Bool, true, false, List, [], ◌∷◌, length, set, None, refl, sym, ap, ◌∙◌, subst, inl, inr, arith}
use Rattle.std.specs.Prelude.{◌⊎◌, Option, nat_lt, filter}
use Rattle.std.proofs.lemmas.List.{get_or-set_other, get_or-set_same, set_past}
use Rattle.std.proofs.lemmas.Bool.{cases_eq}
use Rattle.std.proofs.lemmas.Bool.Decides.{nat_tests}
use Rattle.rep_lists.specs.Rising.{IsRising}
use Rattle.rep_schema.specs.declared.schema.Schema.{Schema}
use Rattle.rep_schema.specs.declared.schema.Column.{Column}
use Rattle.rep_schema.specs.Tables.{Cells, Rows, row_cmp, find_row, rows_of}
use Rattle.rep_schema.specs.Shown.{shown_by}
use Rattle.snapshot_query.specs.declared.snapshot.Snapshot.{Snapshot}
use Rattle.rep_schema.proofs.FilteredRows.{find_row-filter}
use Rattle.snapshot_query.specs.Parents.{picks, rule_rows}
use Rattle.site_state.specs.Refreshes.{with_tables}
use Rattle.site_events.specs.Rules.{rows_ruled}

-- a row that a test picks is there
picked_there : (columns : List Column) (test : Cells → Bool) (key : Cells) (rows : Rows) → IsRising (row_cmp columns) rows → find_row columns key (filter test rows) ≢ None → find_row columns key rows ≢ None
picked_there columns test key rows rising found none = found (find_row-filter columns test key rows rising ∙ ap (shown_by test) none)

module _ (schema : Schema) (columns : List Column) (table : ℕ) (key : Cells) (shows : List Rows) (rising : IsRising (row_cmp columns) (rows_of shows table)) where
  abbrev row_of : List Rows → Option Cells
  row_of tables = find_row columns key (rows_of tables table)

  -- with what one snapshot shows
  one_shown : (s : Snapshot) (tables : List Rows) → row_of (set tables s.table (rule_rows schema shows s)) ≢ None → (row_of tables ≢ None) ⊎ (row_of shows ≢ None)
  one_shown s tables found = elim (cases_eq s.table table) [
    | inl same ↦ by same (nat_lt s.table (length tables)) refl
    | inr other ↦ inl (λ none. found (ap (find_row columns key) (get_or-set_other tables s.table table (rule_rows schema shows s) [] (λ e. other (sym e))) ∙ none))
  ]
    where
      by : s.table ≡ table → (b : Bool) → nat_lt s.table (length tables) ≡ b → (row_of tables ≢ None) ⊎ (row_of shows ≢ None)
      by same true is = inr (picked_there columns (picks schema shows s) key (rows_of shows table) rising (λ nothing. found (rows ∙ nothing)))
        where
          within : s.table < length tables
          within = grind (arith, nat_tests)

          rows : row_of (set tables s.table (rule_rows schema shows s)) ≡ find_row columns key (filter (picks schema shows s) (rows_of shows table))
          rows = subst (λ (n : ℕ). find_row columns key (rows_of (set tables s.table (rule_rows schema shows s)) n) ≡ find_row columns key (filter (picks schema shows s) (rows_of shows n))) same
              (ap (find_row columns key) (get_or-set_same tables s.table (rule_rows schema shows s) [] within))
      by same false is = inl (λ none. found (ap row_of (set_past tables s.table (rule_rows schema shows s) (grind (arith, nat_tests))) ∙ none))

  -- a row of tables with what snapshots pick of others is one of these, or of the others
  pub shown_there : (ss : List Snapshot) (tables : List Rows) → row_of (with_tables (rows_ruled schema shows ss) tables) ≢ None → (row_of tables ≢ None) ⊎ (row_of shows ≢ None)
  shown_there [] tables found = inl found
  shown_there (s ∷ ss) tables found = elim (shown_there ss (set tables s.table (rule_rows schema shows s)) found) [
    | inl here ↦ one_shown s tables here
    | inr there ↦ inr there
  ]
