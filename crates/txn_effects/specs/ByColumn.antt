-- What is set of each column of a table, in the columns' order, and what the steps of an update read from it.
use Rattle.std.specs.Prelude.{◌≡◌, ℕ, Bool, true, false, cond, not, ◌&&◌, ◌||◌, List, [], ◌∷◌, Option, Some, None, is_some, slice_get}
use Rattle.rep_values.specs.declared.value.Value.{Value}
use Rattle.rep_values.specs.declared.refusal.Refusal.{Refusal}
use Rattle.rep_values.specs.declared.refusal.Refusal.TheVariants as refusal
use Rattle.rep_values.specs.RefusalSteps.{refused, first_refusal}
use Rattle.rep_schema.specs.declared.schema.Column.{Column}
use Rattle.rep_schema.specs.Tables.{Cells}
use Rattle.rep_schema.specs.Kinds.{is_filled, value_in_range, row_in_range}
use Rattle.rep_calls.specs.declared.statement.Set.{Set}
use Rattle.txn_effects.specs.Sets.{names_columns, names_one_twice, takes_set, value_by, sets_by_column}

-- the set of this number, if there is one
abbrev pub set_of : List Set → Option ℕ → Option Set
set_of sets None = None
set_of sets (Some number) = slice_get sets number

abbrev pub set_in : Option (Option Set) → Option Set
set_in None = None
set_in (Some found) = found

-- what is set of the column at a place
abbrev pub set_at : List (Option Set) → ℕ → Option Set
set_at found place = set_in (slice_get found place)

-- each column takes what is set of it
abbrev pub takes_each : List Column → List (Option Set) → Bool
takes_each [] found = true
takes_each (c ∷ cs) [] = true
takes_each (c ∷ cs) (s ∷ ss) = takes_set c s && takes_each cs ss

-- something is set of a column that the site fills
abbrev pub fills_some : List Column → List (Option Set) → Bool
fills_some [] found = false
fills_some (c ∷ cs) [] = false
fills_some (c ∷ cs) (s ∷ ss) = (is_filled c && is_some s) || fills_some cs ss

-- a row with what is set of its columns
abbrev pub row_by : List (Option Set) → Cells → Cells
row_by [] row = row
row_by (s ∷ ss) [] = []
row_by (s ∷ ss) (v ∷ vs) = value_by s v ∷ row_by ss vs

-- a value, where it is in range
abbrev pub where_in_range : Value → Option Value
where_in_range value = cond (value_in_range value) (Some value) None

-- a row, where all of it is in range
abbrev pub row_where_in_range : Cells → Option Cells
row_where_in_range row = cond (row_in_range row) (Some row) None

-- each name is that of a column, none is named twice, and this is set of each column
pub record AreSets (columns : List Column) (sets : List Set) (found : List (Option Set)) : Type 0 where
  pub known : names_columns columns sets ≡ true
  pub once : names_one_twice sets ≡ false
  pub each : found ≡ sets_by_column columns sets

-- why the names of sets are refused, if they are
abbrev pub names_refusal : List Column → List Set → Option Refusal
names_refusal columns sets = first_refusal (refused (not (names_columns columns sets)) refusal.UnknownName ∷ refused (names_one_twice sets) refusal.RowShape ∷ [])
