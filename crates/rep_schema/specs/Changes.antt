-- Changes of rows: what one does to the tables, what taking it back does, and which changes lead from tables to tables.
use Rattle.std.specs.Prelude.{◌≡◌, ◌≢◌, ℕ, ◌<◌, Bool, List, [], ◌∷◌, length, slice_set, Option, Some, None, is_none, IfSome, ◌==◌, ◌&&◌, count_by}
use Rattle.rep_schema.specs.declared.schema.Schema.{Schema}
use Rattle.rep_schema.specs.declared.schema.Column.{Column}
use Rattle.rep_schema.specs.declared.change.Change.{Change}
use Rattle.rep_schema.specs.Tables.{Cells, Rows, columns_of, key_of, find_row, put_row, take_row, rows_of, RowFits, IsUniqueRow, IsKeyed, AreTables}

abbrev pub after_change_in : List Column → Option Cells → Option Cells → Rows → Rows
after_change_in columns before (Some row) rows = put_row columns row rows
after_change_in columns (Some row) None rows = take_row columns (key_of columns row) rows
after_change_in columns None None rows = rows

-- the tables after a change: its row after is put, or its row before is taken where there is none after
abbrev pub after_change : Schema → Change → List Rows → List Rows
after_change schema change tables = slice_set tables change.table (after_change_in (columns_of schema change.table) change.before change.after (rows_of tables change.table))

-- the change the other way round
abbrev pub turned : Change → Change
turned change = record { table = change.table; before = change.after; after = change.before }

-- the tables after a change is taken back
abbrev pub before_change : Schema → Change → List Rows → List Rows
before_change schema change tables = after_change schema (turned change) tables

-- a change of one row of the schema: what is there fits, differs, and has one key
pub record ChangeFits (schema : Schema) (change : Change) : Type 0 where
  pub table : change.table < length schema.tables
  pub keyed : IsKeyed (columns_of schema change.table)
  pub before : IfSome change.before (λ row. RowFits (columns_of schema change.table) row)
  pub after : IfSome change.after (λ row. RowFits (columns_of schema change.table) row)
  pub differ : change.before ≢ change.after
  pub same_key : IfSome change.before (λ a. IfSome change.after (λ b. key_of (columns_of schema change.table) a ≡ key_of (columns_of schema change.table) b))

-- the row with another row's key, if there is one
abbrev pub row_like : List Column → Cells → Rows → Option Cells
row_like columns row rows = find_row columns (key_of columns row) rows

-- a change that these tables allow: the row before is there, the row after takes its place, fits and is unique
pub record IsChange (schema : Schema) (change : Change) (tables : List Rows) : Type 0 where
  pub table : change.table < length schema.tables
  pub keyed : IsKeyed (columns_of schema change.table)
  pub before : IfSome change.before (λ row. row_like (columns_of schema change.table) row (rows_of tables change.table) ≡ Some row)
  pub after : IfSome change.after (λ row. row_like (columns_of schema change.table) row (rows_of tables change.table) ≡ change.before)
  pub fits : IfSome change.after (λ row. RowFits (columns_of schema change.table) row)
  pub unique : IfSome change.after (λ row. IsUniqueRow schema change.table row (rows_of tables change.table))

-- made in their order, the changes lead from the earlier tables to the later ones
abbrev pub LeadsTo : Schema → List Change → List Rows → List Rows → Type 0
LeadsTo schema [] earlier later = earlier ≡ later
LeadsTo schema (change ∷ changes) earlier later = IsChange schema change earlier × LeadsTo schema changes (after_change schema change earlier) later

-- there are earlier tables of the schema from which the changes lead to these
pub record HaveLed (schema : Schema) (changes : List Change) (tables : List Rows) : Type 0 where
  pub earlier : List Rows
  pub are : AreTables schema earlier
  pub lead : LeadsTo schema changes earlier tables

-- the change took a row of the table away
abbrev pub is_taken_from : ℕ → Change → Bool
is_taken_from table change = change.table == table && is_none change.after

-- the room that taking these changes back wants in a table: one row for each change there that left none
abbrev pub room_for : ℕ → List Change → ℕ
room_for table changes = count_by (is_taken_from table) changes
