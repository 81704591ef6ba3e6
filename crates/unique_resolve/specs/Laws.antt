-- Laws of settling uniqueness.
use Rattle.std.specs.Prelude.{◌≡◌, ◌≢◌, ◌⊎◌, ℕ, ◌<◌, ◌≤◌, ◌^◌, Bool, true, false, ◌&&◌, is_some, List, [], ◌++◌, length, Option, Some, slice_get, slice_index_or}
use Rattle.std.specs.List.{list_any}
use Rattle.rep_values.specs.declared.value.Value.{Value}
use Rattle.rep_values.specs.declared.value.Value.TheVariants.{Words}
use Rattle.rep_values.specs.declared.name.SiteName.{SiteName}
use Rattle.rep_schema.specs.declared.schema.Schema.{Schema}
use Rattle.rep_schema.specs.Shape.{HasShape}
use Rattle.rep_schema.specs.Tables.{Cells, Rows, columns_of, constraints_of, key_of, rows_of, RowFits, IsUniqueRow, AreTables}
use Rattle.rep_schema.specs.Changes.{row_like}
use Rattle.unique_resolve.specs.declared.settled.Settled.TheVariants.{Fits}
use Rattle.unique_resolve.specs.Numbers.{Numbers, AreCounters, has_sequences}
use Rattle.unique_resolve.specs.Appending.{may_change}
use Rattle.unique_resolve.specs.Settling.{settlement_of}

-- a row that fits a table of the schema, and the tables and counters beside which it is settled
pub record CanSettle (schema : Schema) (tables : List Rows) (numbers : Numbers) (table : ℕ) (row : Cells) : Type 0 where
  pub shape : HasShape schema
  pub are : AreTables schema tables
  pub counters : AreCounters schema numbers
  pub of_table : table < length schema.tables
  pub fits : RowFits (columns_of schema table) row

-- a row that can be put in the place of another one with its key
pub record IsSettledRow (schema : Schema) (tables : List Rows) (table : ℕ) (row after : Cells) : Type 0 where
  pub fits : RowFits (columns_of schema table) after
  pub key : key_of (columns_of schema table) after ≡ key_of (columns_of schema table) row
  pub unique : IsUniqueRow schema table after (rows_of tables table)

-- a row that comes out of a settlement fits its table, keeps its key and is unique
abbrev pub SettledRowsCanBePut : Type 0
SettledRowsCanBePut = (schema : Schema) (tables : List Rows) (numbers : Numbers) (origin : SiteName) (table : ℕ) (inserting : Bool) (row after : Cells)
    → CanSettle schema tables numbers table row → (settlement_of schema tables numbers origin table inserting row).settled ≡ Fits after
    → IsSettledRow schema tables table row after

-- a row that violates nothing is settled as itself, and no counter moves
abbrev pub FreeRowsStayThemselves : Type 0
FreeRowsStayThemselves = (schema : Schema) (tables : List Rows) (numbers : Numbers) (origin : SiteName) (table : ℕ) (inserting : Bool) (row : Cells)
    → CanSettle schema tables numbers table row → IsUniqueRow schema table row (rows_of tables table)
    → (inserting && is_some (row_like (columns_of schema table) row (rows_of tables table))) ≡ false
    → settlement_of schema tables numbers origin table inserting row ≡ record { settled = Fits row; numbers = numbers }

-- there is still a counter for each constraint
abbrev pub CountersStayCounters : Type 0
CountersStayCounters = (schema : Schema) (tables : List Rows) (numbers : Numbers) (origin : SiteName) (table : ℕ) (inserting : Bool) (row : Cells)
    → AreCounters schema numbers → AreCounters schema (settlement_of schema tables numbers origin table inserting row).numbers

-- a text with bytes behind it
pub record HasSuffix (before after : Option Value) : Type 0 where
  pub text : List ℕ
  pub bytes : List ℕ
  pub was : before ≡ Some (Words text)
  pub is : after ≡ Some (Words (text ++ bytes))

-- the same value; or a text with bytes behind it, where that may be
abbrev pub IsLengthened : Bool → Option Value → Option Value → Type 0
IsLengthened may before after = (after ≡ before) ⊎ ((may ≡ true) × HasSuffix before after)

-- a column of some constraint of a table that is no key column
abbrev pub may_grow : Schema → ℕ → ℕ → Bool
may_grow schema table column = list_any (λ constraint. may_change (columns_of schema table) constraint.columns column) (constraints_of schema table)

-- of a row that is settled only texts in constraints, outside the key, are others, each with bytes behind it
abbrev pub SettledTextsGrow : Type 0
SettledTextsGrow = (schema : Schema) (tables : List Rows) (numbers : Numbers) (origin : SiteName) (table : ℕ) (inserting : Bool)
    (row after : Cells) → CanSettle schema tables numbers table row
    → (settlement_of schema tables numbers origin table inserting row).settled ≡ Fits after
    → (column : ℕ) → IsLengthened (may_grow schema table column) (slice_get row column) (slice_get after column)

-- the counter of a table's constraint
abbrev pub counter_at : Numbers → ℕ → ℕ → ℕ
counter_at numbers table constraint = slice_index_or (slice_index_or numbers table []) constraint 0

-- a later number is at least as great, and one of 64 bits
pub record IsNoLower (before later : ℕ) : Type 0 where
  pub least : before ≤ later
  pub bits : later < 2 ^ 64

-- a counter of 64 bits never falls, and stays one
abbrev pub CountersNeverFall : Type 0
CountersNeverFall = (schema : Schema) (tables : List Rows) (numbers : Numbers) (origin : SiteName) (table : ℕ) (inserting : Bool)
    (row : Cells) (constraint : ℕ) → counter_at numbers table constraint < 2 ^ 64
    → IsNoLower (counter_at numbers table constraint)
    (counter_at (settlement_of schema tables numbers origin table inserting row).numbers table constraint)

-- the counters of the other tables stand still
abbrev pub OtherCountersStandStill : Type 0
OtherCountersStandStill = (schema : Schema) (tables : List Rows) (numbers : Numbers) (origin : SiteName) (table : ℕ) (inserting : Bool)
    (row : Cells) (other : ℕ) → other ≢ table
    → slice_index_or (settlement_of schema tables numbers origin table inserting row).numbers other [] ≡ slice_index_or numbers other []

-- where no constraint of the schema has append-sequence, all counters stand still
abbrev pub CountersStandStillWithoutSequences : Type 0
CountersStandStillWithoutSequences = (schema : Schema) (tables : List Rows) (numbers : Numbers) (origin : SiteName) (table : ℕ)
    (inserting : Bool) (row : Cells) → has_sequences schema ≡ false
    → (settlement_of schema tables numbers origin table inserting row).numbers ≡ numbers
