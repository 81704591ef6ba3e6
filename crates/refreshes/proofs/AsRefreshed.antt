-- A plan that was carried out refreshes the table.
use Rattle.std.proofs.Common.{◌≡◌, ◌≢◌, ℕ, ◌<◌, ◌≤◌, false, List, [], ◌++◌, length, set, Ok, sym, ap, ◌∙◌, inl, inr, arith}
use Rattle.std.specs.Prelude.{slice_index}
use Rattle.std.specs.List.{AllByRecursion}
use Rattle.std.proofs.lemmas.Bool.{cases_eq}
use Rattle.std.proofs.lemmas.List.{get_or-set_same}
use Rattle.rep_schema.specs.declared.schema.Schema.{Schema}
use Rattle.rep_schema.specs.declared.schema.Column.{Column}
use Rattle.rep_schema.specs.declared.change.Change.{Change}
use Rattle.rep_schema.specs.declared.change.Changes.{Changes}
use Rattle.rep_schema.specs.Tables.{Cells, Rows, columns_of, key_of, find_row, rows_of, IsKeyed, IsTable, AreTables}
use Rattle.rep_schema.specs.Putting.{StoreState}
use Rattle.rep_schema.proofs.FoundRows.{key_of-found}
use Rattle.change_logs.specs.Noting.{key_changed}
use Rattle.refreshes.specs.Showing.{has_key}
use Rattle.refreshes.specs.Planned.{gone_keys, coming_rows, rows_left, rows_with, takings, puttings, CanCome}
use Rattle.refreshes.specs.Refreshed.{ChangesARow, RefreshesTo}
use Rattle.refreshes.proofs.PlannedKeys.{all_gone, all_coming}
use Rattle.refreshes.proofs.Replacing.{rows_replaced, CanCome-coming}
use Rattle.refreshes.proofs.ChangesMade.{LeadsTo-replaced, all_taken, all_put, all_append, room_for-replaced, room_for-replaced_elsewhere}

module _ (schema : Schema) (table : ℕ) (tables : List Rows) (wanted : Rows) (below : table < length schema.tables) (keyed : IsKeyed (columns_of schema table)) (are : AreTables schema tables)
    (is_wanted : IsTable schema table wanted) (keys : List Cells)
    (others : (key : Cells) → has_key key keys ≡ false → find_row (columns_of schema table) key (rows_of tables table) ≡ find_row (columns_of schema table) key wanted) where
  abbrev columns : List Column
  columns = columns_of schema table

  abbrev rows : Rows
  rows = rows_of tables table

  abbrev gone : List Cells
  gone = gone_keys columns rows wanted keys

  abbrev coming : Rows
  coming = coming_rows columns rows wanted keys

  abbrev left : Rows
  left = rows_left columns gone rows

  within : table < length tables
  within = omega (arith, below, are.number)

  -- the rows that come can come
  pub can_come : CanCome schema table coming left
  can_come = CanCome-coming schema table rows wanted (are.each table below) is_wanted keys others

  replaced : rows_with columns coming left ≡ wanted
  replaced = rows_replaced schema table rows wanted (are.each table below) is_wanted keys others

  module _ (later : List Rows) (later_is : later ≡ set tables table wanted) where
    rows_later : rows_of later table ≡ wanted
    rows_later = ap (λ ts. rows_of ts table) later_is ∙ get_or-set_same tables table wanted [] within

    changed : (key : Cells) → find_row columns key rows ≢ find_row columns key wanted → (change : Change) → change.table ≡ table → key_changed schema change ≡ key → ChangesARow schema tables later change
    changed key other change here own = rw (own, here, rows_later) other

    differ : AllByRecursion (ChangesARow schema tables later) (takings table columns gone rows ++ puttings table columns coming left)
    differ = all_append (ChangesARow schema tables later) (takings table columns gone rows) (puttings table columns coming left)
        (all_taken schema table (ChangesARow schema tables later) gone rows
        (all_gone columns rows wanted (λ key. (change : Change) → change.table ≡ table → key_changed schema change ≡ key → ChangesARow schema tables later change) changed keys))
        (all_put schema table (ChangesARow schema tables later) coming left
        (all_coming columns rows wanted (λ row. (change : Change) → change.table ≡ table → key_changed schema change ≡ key_of columns row → ChangesARow schema tables later change)
        (λ key row found other change here own. changed key other change here (own ∙ key_of-found columns key row wanted found)) keys))

  -- where the plan was carried out, the table has the wanted rows
  pub refreshes : {E : Type 0} (spare : List ℕ) (new : StoreState) (changes : Changes) → new.schema ≡ schema → new.tables ≡ set tables table (rows_with columns coming left)
      → changes.rows ≡ takings table columns gone rows ++ puttings table columns coming left → length gone ≤ slice_index new.spare table → ((t : ℕ) → t ≢ table → slice_index new.spare t ≡ slice_index spare t)
      → RefreshesTo {E = E} table wanted (record { schema = schema; tables = tables; spare = spare }) new (Ok changes)
  refreshes spare new changes schema_is tables_are changes_are room others_are =
      let later : new.tables ≡ set tables table wanted = tables_are ∙ ap (set tables table) replaced in
      record {
        tables = later;
        leads = rw (changes_are, tables_are) (LeadsTo-replaced schema table below keyed gone coming tables within can_come);
        differ = rw changes_are (differ new.tables later);
        room = λ t. rw changes_are (elim (cases_eq t table) [
          | inl same ↦ rw same (omega (arith, room, room_for-replaced table columns table gone rows coming left))
          | inr other ↦ omega (arith, room_for-replaced_elsewhere table columns t (λ e. other (sym e)) gone rows coming left)
        ]);
        same = tt;
        kept = tt;
        others = others_are;
        schema = schema_is;
      }
