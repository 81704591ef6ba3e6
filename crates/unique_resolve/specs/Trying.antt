-- What the steps of settling tell.
use Rattle.std.specs.Prelude.{◌≡◌, ℕ, ◌<◌, Bool, true, false, List, length, Option, Some, IfSome}
use Rattle.rep_schema.specs.declared.schema.Schema.{Schema}
use Rattle.rep_schema.specs.Shape.{HasShape}
use Rattle.rep_schema.specs.Tables.{Cells, Rows, columns_of, constraints_of, rows_of, IsKeyed, RowFits, AreTables}
use Rattle.rep_schema.specs.Changes.{row_like}
use Rattle.unique_resolve.specs.declared.settled.Settled.TheVariants.{Fits, Dropped}
use Rattle.unique_resolve.specs.declared.trying.Tried.{Tried}
use Rattle.unique_resolve.specs.declared.trying.Tried.TheVariants.{Helps, GivesUp, Fails}
use Rattle.unique_resolve.specs.Settling.{ConstraintOutcome}

-- a row that is to be put into a table of a schema
pub record IsAsked (schema : Schema) (table : ℕ) (row : Cells) : Type 0 where
  pub shape : HasShape schema
  pub of_table : table < length schema.tables
  pub keyed : IsKeyed (columns_of schema table)
  pub fits : RowFits (columns_of schema table) row

-- a row that can be tested for a secondary constraint of a table
pub record IsTestable (schema : Schema) (tables : List Rows) (table place : ℕ) (row : Cells) : Type 0 where
  pub are : AreTables schema tables
  pub of_table : table < length schema.tables
  pub keyed : IsKeyed (columns_of schema table)
  pub of_constraint : place < length (constraints_of schema table)
  pub fits : RowFits (columns_of schema table) row

-- the row before, if one is given, is the one that stands in the table with the row's key
abbrev pub HasBefore : Schema → List Rows → ℕ → Option Cells → Cells → Type 0
HasBefore schema tables table before row = IfSome before (λ found. row_like (columns_of schema table) row (rows_of tables table) ≡ Some found)

-- what came of an append
abbrev pub tried_by : Bool → Tried
tried_by true = Helps
tried_by false = Fails

-- a method that helps or gives the row up settles the constraint, and else the following ones do
abbrev pub followed : Tried → Cells → ℕ → ConstraintOutcome → ConstraintOutcome
followed Helps row number following = record { settled = Fits row; number = number }
followed GivesUp row number following = record { settled = Dropped; number = number }
followed Fails row number following = following
