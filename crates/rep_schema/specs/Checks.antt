-- Which rows meet a check, and the first check of a table that a row doesn't meet.
use Rattle.std.specs.Prelude.{ℕ, Bool, false, not, List, [], Option, Some, None, slice_get}
use Rattle.std.specs.List.{find}
use Rattle.std.specs.Ordering.{is_lt, is_le, is_eq}
use Rattle.std.specs.declared.cmp.Ordering.{Ordering}
use Rattle.rep_values.specs.declared.value.Value.{Value}
use Rattle.rep_values.specs.Order.{value_cmp}
use Rattle.rep_schema.specs.declared.schema.Schema.{Schema}
use Rattle.rep_schema.specs.declared.schema.TableEntry.{TableEntry}
use Rattle.rep_schema.specs.declared.check.Check.{Check}
use Rattle.rep_schema.specs.declared.check.Rel.{Rel}
use Rattle.rep_schema.specs.declared.check.Rel.TheVariants.{Eq, Ne, Lt, Le, Gt, Ge}
use Rattle.rep_schema.specs.Tables.{Cells}

-- a value that stands so beside another is in this relation to it
abbrev pub relates : Rel → Ordering → Bool
relates Eq order = is_eq order
relates Ne order = not (is_eq order)
relates Lt order = is_lt order
relates Le order = is_le order
relates Gt order = not (is_le order)
relates Ge order = not (is_lt order)

-- a relation's row in the table of verdicts
abbrev pub rel_row : Rel → ℕ
rel_row Eq = 0
rel_row Ne = 1
rel_row Lt = 2
rel_row Le = 3
rel_row Gt = 4
rel_row Ge = 5

abbrev pub meets : Check → Option Value → Bool
meets check None = false
meets check (Some value) = relates check.rel (value_cmp value check.value)

-- a row meets a check: its value in the check's column is in the relation to the check's value
abbrev pub check_holds : Check → Cells → Bool
check_holds check row = meets check (slice_get row check.column)

-- the first of these checks that a row doesn't meet
abbrev pub first_failed : List Check → Cells → Option Check
first_failed checks row = find (λ check. not (check_holds check row)) checks

abbrev pub checks_in : Option TableEntry → List Check
checks_in None = []
checks_in (Some entry) = entry.checks

-- the checks of a table
abbrev pub checks_of : Schema → ℕ → List Check
checks_of schema table = checks_in (slice_get schema.tables table)

-- the first check of a table, in declared order, that a row doesn't meet
abbrev pub failed_check : Schema → ℕ → Cells → Option Check
failed_check schema table row = first_failed (checks_of schema table) row
