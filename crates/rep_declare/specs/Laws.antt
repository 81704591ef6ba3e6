-- Laws of the columns that a line names, of what a declaration leaves of the tables, and of levels.
use Rattle.std.specs.Prelude.{◌≡◌, ◌↔◌, ◌==◌, ◌&&◌, ℕ, ℤ, Bool, false, cond, List, [], None, Some, slice_get}
use Rattle.std.specs.List.{All, Contains}
use Rattle.std.specs.List.Sorted.{IsStrictlyIncreasing}
use Rattle.rep_values.specs.declared.literal.Literal.{Literal}
use Rattle.rep_values.specs.declared.value.Value.{Value}
use Rattle.rep_values.specs.Equality.{value_eq}
use Rattle.rep_values.specs.Literal.{value_of_literal}
use Rattle.rep_schema.specs.declared.schema.Column.{Column}
use Rattle.rep_schema.specs.declared.schema.Schema.{Schema}
use Rattle.rep_schema.specs.Tables.{Rows, AreTables}
use Rattle.rep_schema.specs.Levels.{level_of}
use Rattle.rep_schema.specs.Shape.{AreDistinct}
use Rattle.rep_schema.specs.Named.{column_place, places_named}
use Rattle.rep_declare.specs.declared.declaration.Declare.{Declare}
use Rattle.rep_declare.specs.declared.declaration.Declare.TheVariants as declare
use Rattle.rep_declare.specs.Additions.{priority_number, with_priority, declared}
use Rattle.rep_declare.specs.Refusals.{columns_step}
use Rattle.rep_declare.specs.Shaping.{rows_with, ShapesNoRows}

-- a column with one of these names stands at a place
abbrev pub IsNamedAt : List Column → List (List ℕ) → ℕ → Type 0
IsNamedAt columns names place = (c : Column) × (slice_get columns place ≡ Some c) × Contains names c.name

-- the places of named columns rise, and are those at which a column with one of these names stands
abbrev pub PlacesAreThoseOfNamedColumns : Type 0
PlacesAreThoseOfNamedColumns = (columns : List Column) (names : List (List ℕ))
    → IsStrictlyIncreasing (places_named columns names) × ((place : ℕ) → Contains (places_named columns names) place ↔ IsNamedAt columns names place)

-- the column of a name is there and isn't taken
abbrev pub ColumnIsFree : List Column → (ℕ → Bool) → List ℕ → Type 0
ColumnIsFree columns is_taken name = (place : ℕ) × (column_place columns name ≡ Some place) × (is_taken place ≡ false)

-- a line names columns that are there and aren't taken, each once
pub record NamesFreeColumns (columns : List Column) (is_taken : ℕ → Bool) (names : List (List ℕ)) : Type 0 where
  pub free : All (ColumnIsFree columns is_taken) names
  pub once : AreDistinct names

-- exactly such a line isn't refused for its columns
abbrev pub LinesPassThatNameFreeColumns : Type 0
LinesPassThatNameFreeColumns = (columns : List Column) (is_taken : ℕ → Bool) (names : List (List ℕ))
    → (columns_step columns is_taken [] names ≡ None) ↔ NamesFreeColumns columns is_taken names

-- the tables with a declaration are tables of the schema with it, where the table that it shapes has no rows
abbrev pub DeclaredTablesAreTables : Type 0
DeclaredTablesAreTables = (declaration : Declare) (schema : Schema) (tables : List Rows) → AreTables schema tables → ShapesNoRows schema tables declaration
    → AreTables (declared declaration schema) (rows_with declaration tables)

-- a declared level is its value's in the priority group of its name, and every other level is what it was
abbrev pub OneValueGetsTheLevel : Type 0
OneValueGetsTheLevel = (schema : Schema) (name : List ℕ) (value : Literal) (level : ℤ) (group : ℕ) (other : Value)
    → level_of (declared (declare.Priority name value level) schema) group (Some other)
    ≡ cond (group == priority_number (with_priority name schema.priorities) name && value_eq other (value_of_literal value)) (Some level) (level_of schema group (Some other))
