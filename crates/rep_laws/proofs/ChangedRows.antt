-- What is found by key in tables after the change of one row.
use Rattle.std.proofs.Common.{◌≡◌, ◌≢◌, ℕ, ◌<◌, List, [], ◌∷◌, length, Bool, true, false, cond, Some, None, refl, sym, ap, ◌∙◌, subst, inl, inr, arith}
use Rattle.std.specs.Prelude.{Option, IfSome}
use Rattle.std.proofs.lemmas.Bool.{cases_eq}
use Rattle.std.proofs.lemmas.List.{get_or-set_same, get_or-set_other}
use Rattle.rep_lists.specs.Rising.{IsRising}
use Rattle.rep_schema.specs.declared.schema.Schema.{Schema}
use Rattle.rep_schema.specs.declared.schema.Column.{Column}
use Rattle.rep_schema.specs.declared.change.Change.{Change}
use Rattle.rep_schema.specs.Tables.{Cells, Rows, columns_of, key_of, row_cmp, find_row, put_row, rows_of, AreTables}
use Rattle.rep_schema.specs.Changes.{after_change_in}
use Rattle.rep_schema.proofs.FoundRows.{find_row-put_own, find_row-put_other, find_row-take_own, find_row-take_other, key_of-found}
use Rattle.rep_schema.specs.Putting.{is_unchanged, changes_between, after_changes}
use Rattle.rep_schema.proofs.Making.{is_unchanged-Decides}
use Rattle.rep_laws.proofs.TokenTests.{AreElsewhere}

module _ (columns : List Column) (key : Cells) (rows : Rows) (rising : IsRising (row_cmp columns) rows) where
  find_row-made_in : (before after : Option Cells) → before ≡ find_row columns key rows → IfSome after (λ row. key_of columns row ≡ key) → find_row columns key (after_change_in columns before after rows) ≡ after
  find_row-made_in before (Some row) was own = subst (λ k. find_row columns k (put_row columns row rows) ≡ Some row) own (find_row-put_own columns row rows)
  find_row-made_in (Some old) None was own = rw (key_of-found columns key old rows (sym was)) (find_row-take_own columns key rows rising)
  find_row-made_in None None was own = sym was

  find_row-made_in_other : (before after : Option Cells) (other : Cells) → before ≡ find_row columns key rows → IfSome after (λ row. key_of columns row ≡ key) → key ≢ other
      → find_row columns other (after_change_in columns before after rows) ≡ find_row columns other rows
  find_row-made_in_other before (Some row) other was own apart = find_row-put_other columns row other rows (λ same. apart (sym own ∙ same))
  find_row-made_in_other (Some old) None other was own apart = rw (key_of-found columns key old rows (sym was)) (find_row-take_other columns key other rows rising apart)
  find_row-made_in_other None None other was own apart = refl

module _ (schema : Schema) (tables : List Rows) (are : AreTables schema tables) (table : ℕ) (below : table < length schema.tables) (key : Cells) (before after : Option Cells)
    (was : before ≡ find_row (columns_of schema table) key (rows_of tables table)) (own : IfSome after (λ row. key_of (columns_of schema table) row ≡ key)) where
  abbrev change : Change
  change = record { table = table; before = before; after = after }

  -- the row after is found by its key
  pub find_row-changed : find_row (columns_of schema table) key (rows_of (after_changes schema (changes_between table before after) tables) table) ≡ after
  find_row-changed = go (is_unchanged before after) refl
    where
      go : (b : Bool) → is_unchanged before after ≡ b → find_row (columns_of schema table) key (rows_of (after_changes schema (cond b [] (change ∷ [])) tables) table) ≡ after
      go true same = sym was ∙ (is_unchanged-Decides before after).0 same
      go false differ =
          let within : table < length tables = omega (arith, below, are.number) in
          ap (find_row (columns_of schema table) key) (get_or-set_same tables table (after_change_in (columns_of schema table) before after (rows_of tables table)) [] within)
          ∙ find_row-made_in (columns_of schema table) key (rows_of tables table) (are.each table below).rising before after was own

  -- elsewhere the same rows are found as before
  pub find_row-changed_other : (other_table : ℕ) (other : Cells) → AreElsewhere other_table other table key
      → find_row (columns_of schema other_table) other (rows_of (after_changes schema (changes_between table before after) tables) other_table) ≡ find_row (columns_of schema other_table) other (rows_of tables other_table)
  find_row-changed_other other_table other elsewhere = go (is_unchanged before after)
    where
      go : (b : Bool) → find_row (columns_of schema other_table) other (rows_of (after_changes schema (cond b [] (change ∷ [])) tables) other_table) ≡ find_row (columns_of schema other_table) other (rows_of tables other_table)
      go true = refl
      go false = elim (cases_eq other_table table) [
        | inl same ↦
            let within : table < length tables = omega (arith, below, are.number) in
            rw same
            (ap (find_row (columns_of schema table) other) (get_or-set_same tables table (after_change_in (columns_of schema table) before after (rows_of tables table)) [] within)
            ∙ find_row-made_in_other (columns_of schema table) key (rows_of tables table) (are.each table below).rising before after other was own (λ equal. elsewhere same (sym equal)))
        | inr apart ↦ ap (find_row (columns_of schema other_table) other) (get_or-set_other tables table other_table (after_change_in (columns_of schema table) before after (rows_of tables table)) [] apart)
      ]
