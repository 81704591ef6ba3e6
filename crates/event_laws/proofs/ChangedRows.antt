-- A key that isn't changed has the row that it had.
use Rattle.std.proofs.Common.{◌≡◌, ◌≢◌, ℕ, zero, suc, ◌<◌, ◌==◌, List, [], ◌∷◌, length, map, set, Bool, true, false, cond, Some, None, refl, sym, ap, ◌∙◌, arith, subst}
use Rattle.std.specs.Prelude.{Option, IfSome, filter}
use Rattle.std.proofs.lemmas.Bool.Decides.{nat_tests}
use Rattle.rep_lists.specs.Rising.{IsRising}
use Rattle.rep_schema.specs.declared.schema.Schema.{Schema}
use Rattle.rep_schema.specs.declared.schema.Column.{Column}
use Rattle.rep_schema.specs.declared.change.Change.{Change}
use Rattle.rep_schema.specs.Tables.{Cells, Rows, columns_of, key_of, row_cmp, find_row, rows_of, AreTables}
use Rattle.rep_schema.specs.Groups.{are_same}
use Rattle.rep_schema.specs.Changes.{after_change_in, after_change, row_like, IsChange, LeadsTo}
use Rattle.rep_schema.proofs.FoundRows.{find_row-put_other, find_row-take_other, key_of-found}
use Rattle.rep_schema.proofs.TakingBack.{AreTables-made}
use Rattle.change_logs.specs.Noting.{key_between, key_changed, keys_changed}
use Rattle.refreshes.specs.Showing.{has_key}
use Rattle.event_laws.proofs.Keys.{neither, same_own}

-- one of several tables, where one was set
pub rows_of-set : (P : Rows → Type 0) (tables : List Rows) (t k : ℕ) (rows : Rows) → P (rows_of tables k) → (t ≡ k → k < length tables → P rows) → P (rows_of (set tables t rows) k)
rows_of-set P [] t k rows was new = was
rows_of-set P (x ∷ xs) zero zero rows was new = new refl (omega arith)
rows_of-set P (x ∷ xs) zero (suc k) rows was new = was
rows_of-set P (x ∷ xs) (suc t) zero rows was new = was
rows_of-set P (x ∷ xs) (suc t) (suc k) rows was new = rows_of-set P xs t k rows was (λ e less. new (ap suc e) (omega (arith, less)))

module _ (schema : Schema) (table : ℕ) where
  abbrev columns : List Column
  columns = columns_of schema table

  find_row-made_in : (before after : Option Cells) (rows : Rows) (key : Cells) → IsRising (row_cmp columns) rows → IfSome after (λ row. row_like columns row rows ≡ before) → key_between schema table before after ≢ key
      → find_row columns key (after_change_in columns before after rows) ≡ find_row columns key rows
  find_row-made_in None (Some row) rows key rising there other = find_row-put_other columns row key rows other
  find_row-made_in (Some old) (Some row) rows key rising there other = find_row-put_other columns row key rows (λ e. other (key_of-found columns (key_of columns row) old rows there ∙ e))
  find_row-made_in (Some row) None rows key rising there other = find_row-take_other columns (key_of columns row) key rows rising other
  find_row-made_in None None rows key rising there other = refl

module _ (schema : Schema) where
  find_row-made : (change : Change) (tables : List Rows) (table : ℕ) (key : Cells) → AreTables schema tables → IsChange schema change tables → (change.table ≡ table → key_changed schema change ≢ key)
      → find_row (columns_of schema table) key (rows_of (after_change schema change tables) table) ≡ find_row (columns_of schema table) key (rows_of tables table)
  find_row-made change tables table key are is other =
      rows_of-set (λ rows. find_row (columns_of schema table) key rows ≡ find_row (columns_of schema table) key (rows_of tables table)) tables change.table table
      (after_change_in (columns_of schema change.table) change.before change.after (rows_of tables change.table))
      refl
      (λ e below. subst (λ t. find_row (columns_of schema t) key (after_change_in (columns_of schema change.table) change.before change.after (rows_of tables change.table)) ≡ find_row (columns_of schema t) key (rows_of tables t)) e
      (find_row-made_in schema change.table change.before change.after (rows_of tables change.table) key (are.each change.table is.table).rising is.after (other e)))

  -- a key that isn't among those of changes isn't that of the first, nor among those of the others
  first_unchanged : (table : ℕ) (key : Cells) (change : Change) (changes : List Change) → has_key key (keys_changed schema table (change ∷ changes)) ≡ false
      → (change.table ≡ table → key_changed schema change ≢ key) × (has_key key (keys_changed schema table changes) ≡ false)
  first_unchanged table key change changes none = go (change.table == table) refl none
    where
      go : (b : Bool) → (change.table == table) ≡ b
          → has_key key (map (key_changed schema) (cond b (change ∷ filter (λ (c : Change). c.table == table) changes) (filter (λ (c : Change). c.table == table) changes))) ≡ false
          → (change.table ≡ table → key_changed schema change ≢ key) × (has_key key (keys_changed schema table changes) ≡ false)
      go true is none =
          let both = neither (are_same key (key_changed schema change)) (has_key key (keys_changed schema table changes)) none in
          ((λ e same. absurd (cc (both.0, same_own key, same))), both.1)
      go false is none = ((λ e. absurd (grind (arith, nat_tests, is, e))), none)

  -- where changes lead from tables to others, a key that isn't changed has the row that it had
  pub find_row-led : (changes : List Change) (earlier later : List Rows) (table : ℕ) (key : Cells) → AreTables schema earlier → LeadsTo schema changes earlier later → has_key key (keys_changed schema table changes) ≡ false
      → find_row (columns_of schema table) key (rows_of later table) ≡ find_row (columns_of schema table) key (rows_of earlier table)
  find_row-led [] earlier later table key are leads none = ap (λ (tables : List Rows). find_row (columns_of schema table) key (rows_of tables table)) (sym leads)
  find_row-led (change ∷ changes) earlier later table key are leads none =
      let both = first_unchanged table key change changes none in
      find_row-led changes (after_change schema change earlier) later table key (AreTables-made schema change earlier are leads.0) leads.1 both.1
      ∙ find_row-made change earlier table key are leads.0 both.0
