-- When a transaction fits a schema.
use Rattle.std.specs.Prelude.{◌≢◌, ℕ, ◌<◌, ◌≤◌, List, length, map, Option, Some, None, Contains}
use Rattle.std.specs.List.{AllByRecursion}
use Rattle.std.specs.List.Sorted.{IsStrictlyIncreasing}
use Rattle.rep_values.specs.declared.value.Value.{Value}
use Rattle.rep_schema.specs.declared.schema.Schema.{Schema}
use Rattle.rep_schema.specs.declared.schema.Kind.{Kind}
use Rattle.rep_schema.specs.declared.schema.Column.{Column}
use Rattle.rep_schema.specs.Tables.{Cells, columns_of, key_columns, FitsKind, RowFits}
use Rattle.rep_schema.specs.Groups.{group_numbers_of, columns_in_group}
use Rattle.rep_calls.specs.declared.call.Part.{Part}
use Rattle.rep_calls.specs.declared.call.Call.{Call}
use Rattle.rep_calls.specs.declared.call.Call.TheVariants.{Insert, Update, Delete}
use Rattle.rep_calls.specs.declared.call.Txn.{Txn}

-- the table that a call names
abbrev pub table_of : Call → ℕ
table_of (Insert table row) = table
table_of (Update table key parts) = table
table_of (Delete table row) = table

-- a value is there, and a column of this kind may hold it
abbrev pub FitsThere : Kind → Option Value → Type 0
FitsThere kind None = ⊥
FitsThere kind (Some value) = FitsKind kind value

-- a named group of the table, or its shadow group
abbrev pub IsGroupOf : Schema → ℕ → ℕ → Type 0
IsGroupOf schema table group = Contains (group_numbers_of schema table) group

-- a part's values match these columns in number and kind, their numbers lie within ±10^15, and old and new values differ
pub record ValuesFit (columns : List Column) (part : Part) : Type 0 where
  pub old : RowFits columns part.old
  pub new : RowFits columns part.new
  pub differ : part.old ≢ part.new

-- a part of an update of a table: its group is the table's, the values match the group's columns in number and kind,
-- their numbers lie within ±10^15, and old and new values differ
pub record PartFits (schema : Schema) (table : ℕ) (part : Part) : Type 0 where
  pub group : IsGroupOf schema table part.group
  pub old : RowFits (columns_in_group schema table part.group) part.old
  pub new : RowFits (columns_in_group schema table part.group) part.new
  pub differ : part.old ≢ part.new

-- an update of a table: the key matches the key columns, there is a part, each fits, and their groups rise
pub record UpdateFits (schema : Schema) (table : ℕ) (key : Cells) (parts : List Part) : Type 0 where
  pub key_fits : RowFits (key_columns (columns_of schema table)) key
  pub some : 1 ≤ length parts
  pub parts_fit : AllByRecursion (PartFits schema table) parts
  pub rise : IsStrictlyIncreasing (map (λ part. part.group) parts)

abbrev pub ContentFits : Schema → Call → Type 0
ContentFits schema (Insert table row) = RowFits (columns_of schema table) row
ContentFits schema (Update table key parts) = UpdateFits schema table key parts
ContentFits schema (Delete table row) = RowFits (columns_of schema table) row

-- a call: its table is the schema's, and its row, or its key and parts, fit the table
pub record CallFits (schema : Schema) (call : Call) : Type 0 where
  pub table : table_of call < length schema.tables
  pub content : ContentFits schema call

-- a transaction: each of its calls fits
pub record TxnFits (schema : Schema) (txn : Txn) : Type 0 where
  pub calls : AllByRecursion (CallFits schema) txn.calls
