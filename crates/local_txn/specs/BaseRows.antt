-- The rows that the tables have before any site is made.
use Rattle.std.specs.Prelude.{◌≡◌, ℕ, true, false, not, ◌&&◌, List, [], ◌∷◌, ◌++◌, take, drop, map, Option, Some, None, is_some, slice_get}
use Rattle.rep_values.specs.declared.literal.Literal.{Literal}
use Rattle.rep_values.specs.declared.refusal.Refusal.{Refusal}
use Rattle.rep_values.specs.declared.refusal.Refusal.TheVariants as refusal
use Rattle.rep_values.specs.declared.name.TableName.{TableName}
use Rattle.rep_values.specs.RefusalSteps.{refused, known, first_refusal}
use Rattle.rep_schema.specs.declared.schema.Schema.{Schema}
use Rattle.rep_schema.specs.declared.schema.TableEntry.{TableEntry}
use Rattle.rep_schema.specs.declared.schema.Column.{Column}
use Rattle.rep_schema.specs.Tables.{Cells, Rows, columns_of, constraint_columns_of, key_of}
use Rattle.rep_schema.specs.Kinds.{is_filled}
use Rattle.rep_schema.specs.Fitting.{is_keyed}
use Rattle.rep_schema.specs.Named.{table_place}
use Rattle.rep_schema.specs.Putting.{after_changes}
use Rattle.std.specs.List.{AllByRecursion}
use Rattle.txn_effects.specs.Literals.{literals_fit, values_of}
use Rattle.txn_effects.specs.Filled.{Filling, filled_row, written_columns, row_written}
use Rattle.txn_effects.specs.Statements.{row_at, row_steps}

-- the row of a table that literals write, blank in the columns that a site fills
abbrev pub base_row : Schema → ℕ → List Literal → Cells
base_row schema table values = row_written (columns_of schema table) (values_of values)

-- a row for a table with a key: its shape, then its key, its ranges, constraints and checks
abbrev pub base_steps : Schema → List Rows → ℕ → List Literal → List (Option Refusal)
base_steps schema tables table values =
    refused (not (is_keyed (columns_of schema table) && literals_fit schema (written_columns (columns_of schema table)) values)) refusal.RowShape ∷
    refused (is_some (row_at schema tables table (key_of (columns_of schema table) (base_row schema table values)))) refusal.KeyTaken ∷
    row_steps schema tables table (base_row schema table values)

-- why a row is refused, if it is
abbrev pub base_refusal : Schema → List Rows → TableName → List Literal → Option Refusal
base_refusal schema tables name values = first_refusal (known (table_place schema name) (λ table. base_steps schema tables table values))

abbrev pub tables_with : Schema → List Rows → Option ℕ → List Literal → List Rows
tables_with schema tables None values = tables
tables_with schema tables (Some table) values = after_changes schema (record { table = table; before = None; after = Some (base_row schema table values) } ∷ []) tables

-- the tables with one more row
abbrev pub tables_with_row : Schema → List Rows → TableName → List Literal → List Rows
tables_with_row schema tables name values = tables_with schema tables (table_place schema name) values

-- the rows of tables with all of their filled columns filled in
abbrev pub filled_tables : Filling → List TableEntry → List Rows → List Rows
filled_tables filling [] tables = tables
filled_tables filling (entry ∷ entries) [] = []
filled_tables filling (entry ∷ entries) (rows ∷ tables) = map (filled_row filling entry.columns) rows ∷ filled_tables filling entries tables

-- the rows of tables, of those from a number on with their filled columns filled in
abbrev pub filled_on : Filling → Schema → ℕ → List Rows → List Rows
filled_on filling schema n tables = take n tables ++ filled_tables filling (drop n schema.tables) (drop n tables)

abbrev pub IsNotFilled : List Column → ℕ → Type 0
IsNotFilled columns place = (column : Column) → slice_get columns place ≡ Some column → is_filled column ≡ false

-- filled columns are no key columns and stand in no secondary constraint, so that filling them in moves no row
pub record FillsFreely (schema : Schema) : Type 0 where
  pub keys : (table place : ℕ) (column : Column) → slice_get (columns_of schema table) place ≡ Some column → column.key ≡ true → is_filled column ≡ false
  pub constraints : (table constraint : ℕ) → AllByRecursion (IsNotFilled (columns_of schema table)) (constraint_columns_of schema table constraint)
