-- Tables: lists of rows in rising order of key, and what is found, put and taken there.
use Rattle.std.specs.Prelude.{◌≡◌, ◌≢◌, ℕ, ◌+◌, ◌<◌, ℤ, pos, negsuc, ◌≤ℤ◌, List, [], ◌∷◌, length, map, slice_get, slice_index_or, Option, Some, None, Any, cond, filter}
use Rattle.std.specs.List.{AllByRecursion}
use Rattle.std.specs.declared.cmp.Ordering.{Ordering}
use Rattle.std.specs.declared.cmp.Ordering.TheVariants.{Less, Equal, Greater}
use Rattle.rep_lists.specs.Rising.{IsRising, find_at, put_at, take_at}
use Rattle.rep_values.specs.declared.value.Value.{Value}
use Rattle.rep_values.specs.declared.value.Value.TheVariants.{Num, Words}
use Rattle.rep_values.specs.Number.{IsKeyLen}
use Rattle.rep_values.specs.Order.{value_cmp, key_cmp}
use Rattle.rep_schema.specs.declared.schema.Schema.{Schema}
use Rattle.rep_schema.specs.declared.schema.TableEntry.{TableEntry}
use Rattle.rep_schema.specs.declared.schema.Column.{Column}
use Rattle.rep_schema.specs.declared.schema.Constraint.{Constraint}
use Rattle.rep_schema.specs.declared.schema.Kind.{Kind}
use Rattle.rep_schema.specs.declared.schema.Kind.TheVariants as kind

-- the values of a row or of a key
abbrev pub Cells : Type 0
Cells = List Value

-- the rows of a table
abbrev pub Rows : Type 0
Rows = List Cells

abbrev pub columns_in : Option TableEntry → List Column
columns_in None = []
columns_in (Some entry) = entry.columns

-- the columns of a table; none where there is no such table
abbrev pub columns_of : Schema → ℕ → List Column
columns_of schema table = columns_in (slice_get schema.tables table)

abbrev pub constraints_in : Option TableEntry → List Constraint
constraints_in None = []
constraints_in (Some entry) = entry.constraints

-- the secondary constraints of a table
abbrev pub constraints_of : Schema → ℕ → List Constraint
constraints_of schema table = constraints_in (slice_get schema.tables table)

abbrev pub places_in : Option Constraint → List ℕ
places_in None = []
places_in (Some constraint) = constraint.columns

-- the places of the columns of a secondary constraint
abbrev pub constraint_columns_of : Schema → ℕ → ℕ → List ℕ
constraint_columns_of schema table constraint = places_in (slice_get (constraints_of schema table) constraint)

-- a row's values in the key columns
abbrev pub key_of : List Column → Cells → Cells
key_of [] row = []
key_of (c ∷ cs) [] = []
key_of (c ∷ cs) (v ∷ vs) = cond c.key (v ∷ key_of cs vs) (key_of cs vs)

-- how many key columns there are
abbrev pub key_count : List Column → ℕ
key_count [] = 0
key_count (c ∷ cs) = cond c.key (key_count cs + 1) (key_count cs)

-- the columns that a key has values for
abbrev pub key_columns : List Column → List Column
key_columns columns = filter (λ c. c.key) columns

-- there are 1 to 4 key columns
abbrev pub IsKeyed : List Column → Type 0
IsKeyed columns = IsKeyLen (key_count columns)

-- where a row stands beside a key
abbrev pub row_beside : List Column → Cells → Cells → Ordering
row_beside columns key row = key_cmp (key_of columns row) key

-- two rows compared by their keys
abbrev pub row_cmp : List Column → Cells → Cells → Ordering
row_cmp columns a b = key_cmp (key_of columns a) (key_of columns b)

-- two values of rows compared, a row standing before those that go on where it ends
abbrev pub cell_cmp : Option Value → Option Value → Ordering
cell_cmp None None = Equal
cell_cmp None (Some v) = Less
cell_cmp (Some u) None = Greater
cell_cmp (Some u) (Some v) = value_cmp u v

-- the row with a key, if there is one
abbrev pub find_row : List Column → Cells → Rows → Option Cells
find_row columns key rows = find_at (row_beside columns key) rows

-- the rows with this one among them, in place of the row with its key
abbrev pub put_row : List Column → Cells → Rows → Rows
put_row columns row rows = put_at (row_beside columns (key_of columns row)) row rows

-- the rows without the one with a key
abbrev pub take_row : List Column → Cells → Rows → Rows
take_row columns key rows = take_at (row_beside columns key) rows

-- a number within ±10^15
abbrev pub IsInRange : ℤ → Type 0
IsInRange n = (negsuc 999999999999999 ≤ℤ n) × (n ≤ℤ pos 1000000000000000)

-- a value that a kind of column may hold: a number in range or a text
abbrev pub FitsKind : Kind → Value → Type 0
FitsKind kind.Number (Num n) = IsInRange n
FitsKind kind.Date (Num n) = IsInRange n
FitsKind kind.Stamp (Num n) = IsInRange n
FitsKind kind.Words (Num n) = ⊥
FitsKind kind.Site (Num n) = ⊥
FitsKind kind.Number (Words t) = ⊥
FitsKind kind.Date (Words t) = ⊥
FitsKind kind.Stamp (Words t) = ⊥
FitsKind kind.Words (Words t) = Unit {0}
FitsKind kind.Site (Words t) = Unit {0}

-- a value for each column, of its kind
abbrev pub RowFits : List Column → Cells → Type 0
RowFits [] [] = Unit {0}
RowFits [] (v ∷ vs) = ⊥
RowFits (c ∷ cs) [] = ⊥
RowFits (c ∷ cs) (v ∷ vs) = FitsKind c.kind v × RowFits cs vs

-- a row's values at these places, none at a place that the row hasn't
abbrev pub picked : List ℕ → Cells → List (Option Value)
picked places row = map (slice_get row) places

-- a row with another key has the same values at these places
abbrev pub IsHeldElsewhere : List Column → List ℕ → Cells → Rows → Type 0
IsHeldElsewhere columns places row rows = Any (λ other. (key_of columns other ≢ key_of columns row) × (picked places other ≡ picked places row)) rows

-- no row with another key has the same values in the columns of a secondary constraint
pub record IsUniqueRow (schema : Schema) (table : ℕ) (row : Cells) (rows : Rows) : Type 0 where
  pub unheld : (constraint : ℕ) → constraint < length (constraints_of schema table)
      → ¬ IsHeldElsewhere (columns_of schema table) (constraint_columns_of schema table constraint) row rows

-- one table's rows, of the rows of all tables
abbrev pub rows_of : List Rows → ℕ → Rows
rows_of tables table = slice_index_or tables table []

-- a table's rows: in rising order of key, each fit for the columns, no two with the same values in a constraint
pub record IsTable (schema : Schema) (table : ℕ) (rows : Rows) : Type 0 where
  pub rising : IsRising (row_cmp (columns_of schema table)) rows
  pub fit : AllByRecursion (RowFits (columns_of schema table)) rows
  pub apart : AllByRecursion (λ row. IsUniqueRow schema table row rows) rows

-- rows for each table of a schema
pub record AreTables (schema : Schema) (tables : List Rows) : Type 0 where
  pub number : length tables ≡ length schema.tables
  pub each : (table : ℕ) → table < length schema.tables → IsTable schema table (rows_of tables table)
