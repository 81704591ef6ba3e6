-- How uniqueness is settled: what becomes of a row that is to be put into a table, and of the counters.
use Rattle.std.specs.Prelude.{ℕ, Bool, false, true, not, cond, ◌&&◌, List, [], ◌∷◌, Option, Some, None, is_some, slice_get, slice_set, slice_index_or, decimal}
use Rattle.std.specs.List.{list_any}
use Rattle.rep_values.specs.declared.name.SiteName.{SiteName}
use Rattle.rep_schema.specs.declared.schema.Schema.{Schema}
use Rattle.rep_schema.specs.declared.schema.TableEntry.{TableEntry}
use Rattle.rep_schema.specs.declared.schema.Column.{Column}
use Rattle.rep_schema.specs.declared.schema.Constraint.{Constraint}
use Rattle.rep_schema.specs.declared.schema.UniqueMethod.{UniqueMethod}
use Rattle.rep_schema.specs.declared.schema.UniqueMethod.TheVariants as method
use Rattle.rep_schema.specs.Shape.{key_name}
use Rattle.rep_schema.specs.Tables.{Cells, Rows, columns_of, constraints_of, key_of, find_row, rows_of}
use Rattle.rep_schema.specs.Groups.{values_at, are_same}
use Rattle.unique_resolve.specs.declared.settled.Settled.{Settled}
use Rattle.unique_resolve.specs.declared.settled.Settled.TheVariants.{Fits, Dropped, Conflict}
use Rattle.unique_resolve.specs.Numbers.{Numbers, number_raised}
use Rattle.unique_resolve.specs.Appending.{appended}

-- a row with another key has the same values at these places
abbrev pub is_held : List Column → List ℕ → Rows → Cells → Bool
is_held columns places rows row = list_any (λ other. not (are_same (key_of columns other) (key_of columns row)) && are_same (values_at places other) (values_at places row)) rows

-- a row that was tried, where no row with another key has its values
abbrev pub helping : List Column → List ℕ → Rows → Option Cells → Option Cells
helping columns places rows None = None
helping columns places rows (Some row) = cond (is_held columns places rows row) None (Some row)

-- what becomes of a row, and one counter
pub record ConstraintOutcome : Type 0 where
  pub settled : Settled
  pub number : ℕ

-- the row that helps, or what the following methods give
abbrev pub or_following : Option Cells → ℕ → ConstraintOutcome → ConstraintOutcome
or_following None number following = following
or_following (Some row) number following = record { settled = Fits row; number = number }

-- the methods of a violated constraint, in sequence, from an origin: discard gives the row up; an append helps where the
-- text doesn't get too long and the constraint holds then, and else leaves the row; the counter rises each time
-- append-sequence is tried
abbrev pub settled_by : List Column → Constraint → Rows → SiteName → List UniqueMethod → Cells → ℕ → ConstraintOutcome
settled_by columns constraint rows origin [] row number = record { settled = Conflict constraint.name; number = number }
settled_by columns constraint rows origin (method.Discard ∷ methods) row number = record { settled = Dropped; number = number }
settled_by columns constraint rows origin (method.AppendSite column ∷ methods) row number =
    or_following (helping columns constraint.columns rows (appended columns constraint.columns column origin.0 row)) number
    (settled_by columns constraint rows origin methods row number)
settled_by columns constraint rows origin (method.AppendSequence column ∷ methods) row number =
    or_following (helping columns constraint.columns rows (appended columns constraint.columns column (decimal (number_raised number)) row)) (number_raised number)
    (settled_by columns constraint rows origin methods row (number_raised number))

-- one constraint: a row that doesn't violate it fits
abbrev pub settled_one : List Column → Rows → SiteName → Constraint → Cells → ℕ → ConstraintOutcome
settled_one columns rows origin constraint row number = cond (is_held columns constraint.columns rows row)
    (settled_by columns constraint rows origin constraint.methods row number)
    (record { settled = Fits row; number = number })

-- what becomes of a row, and the counters of a table
pub record TableOutcome : Type 0 where
  pub settled : Settled
  pub numbers : List ℕ

abbrev pub with_number : ℕ → TableOutcome → TableOutcome
with_number number outcome = record { settled = outcome.settled; numbers = number ∷ outcome.numbers }

-- a row that fits goes on to the following constraints; else they aren't looked at
abbrev pub go_on : Settled → ℕ → List ℕ → (Cells → TableOutcome) → TableOutcome
go_on (Fits row) number numbers following = with_number number (following row)
go_on Dropped number numbers following = record { settled = Dropped; numbers = number ∷ numbers }
go_on (Conflict name) number numbers following = record { settled = Conflict name; numbers = number ∷ numbers }

-- the constraints in declared order, each with its counter
abbrev pub settled_each : List Column → Rows → SiteName → List Constraint → List ℕ → Cells → TableOutcome
settled_each columns rows origin [] numbers row = record { settled = Fits row; numbers = numbers }
settled_each columns rows origin (constraint ∷ constraints) [] row = record { settled = Fits row; numbers = [] }
settled_each columns rows origin (constraint ∷ constraints) (number ∷ numbers) row =
    let outcome = settled_one columns rows origin constraint row number in
    go_on outcome.settled outcome.number numbers (settled_each columns rows origin constraints numbers)

abbrev pub is_discard : UniqueMethod → Bool
is_discard (method.AppendSite column) = false
is_discard (method.AppendSequence column) = false
is_discard method.Discard = true

abbrev pub key_methods_in : Option TableEntry → List UniqueMethod
key_methods_in None = []
key_methods_in (Some entry) = entry.key_methods

-- the primary key is taken: of its methods discard alone helps, since appends change no key
abbrev pub key_taken : List UniqueMethod → Settled
key_taken methods = cond (list_any is_discard methods) Dropped (Conflict key_name)

-- what becomes of a row, and all counters
pub record Settlement : Type 0 where
  pub settled : Settled
  pub numbers : Numbers

abbrev pub with_numbers : ℕ → Numbers → TableOutcome → Settlement
with_numbers table numbers outcome = record { settled = outcome.settled; numbers = slice_set numbers table outcome.numbers }

-- a row that is to be put into a table, as a new one or not, from an origin: the primary key first for a new one, then
-- the secondary constraints in declared order
abbrev pub settlement_of : Schema → List Rows → Numbers → SiteName → ℕ → Bool → Cells → Settlement
settlement_of schema tables numbers origin table inserting row =
    let columns = columns_of schema table in
    let rows = rows_of tables table in
    cond (inserting && is_some (find_row columns (key_of columns row) rows))
    (record { settled = key_taken (key_methods_in (slice_get schema.tables table)); numbers = numbers })
    (with_numbers table numbers (settled_each columns rows origin (constraints_of schema table) (slice_index_or numbers table []) row))
