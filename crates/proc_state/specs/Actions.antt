-- What a call of a procedure does to the rows of its table.
use Rattle.std.specs.Prelude.{ℕ, ℤ, pos, ◌+ℤ◌, Bool, not, ◌||◌, cond, map, filter, Option, Some, None, List, Result, Ok, Err, slice_get, slice_set}
use Rattle.std.specs.List.{list_all}
use Rattle.rep_values.specs.declared.value.Value.{Value}
use Rattle.rep_values.specs.declared.value.Value.TheVariants.{Num, Words}
use Rattle.rep_values.specs.declared.refusal.ApplyError.{ApplyError}
use Rattle.rep_values.specs.declared.refusal.ApplyError.TheVariants.{ValueRange}
use Rattle.rep_schema.specs.declared.schema.Column.{Column}
use Rattle.rep_schema.specs.Tables.{Cells, Rows, put_row}
use Rattle.rep_schema.specs.Fitting.{is_in_range}
use Rattle.snapshot_query.specs.declared.query.Query.{Query}
use Rattle.snapshot_query.specs.Queries.{matches}
use Rattle.proc_state.specs.declared.procedure.Action.{Action}
use Rattle.proc_state.specs.declared.procedure.Action.TheVariants.{Put, Add, Drop}

abbrev pub number_or_zero : Option Value → ℤ
number_or_zero None = pos 0
number_or_zero (Some (Num n)) = n
number_or_zero (Some (Words text)) = pos 0

-- the number in a column of a row, 0 where it has none
abbrev pub column_number : ℕ → Cells → ℤ
column_number column row = number_or_zero (slice_get row column)

-- the number in a column of a row and an amount together
abbrev pub sum_at : ℕ → ℤ → Cells → ℤ
sum_at column amount row = column_number column row +ℤ amount

-- the sum lies within ±10^15
abbrev pub can_rise : ℕ → ℤ → Cells → Bool
can_rise column amount row = is_in_range (sum_at column amount row)

-- the row with the sum in the column
abbrev pub row_raised : ℕ → ℤ → Cells → Cells
row_raised column amount row = slice_set row column (Num (sum_at column amount row))

-- a row that passes the tests can rise
abbrev pub can_rise_where : Query → ℕ → ℤ → Cells → Bool
can_rise_where tests column amount row = not (matches tests row) || can_rise column amount row

-- the row raised where it passes the tests
abbrev pub row_raised_where : Query → ℕ → ℤ → Cells → Cells
row_raised_where tests column amount row = cond (matches tests row) (row_raised column amount row) row

-- the rows with this one among them, in place of the one with its key
abbrev pub after_put : List Column → Cells → Rows → Rows
after_put columns row rows = put_row columns row rows

-- each row that passes the tests is raised by the amount; none is where one of them can't
abbrev pub after_add : ℕ → Query → ℤ → Rows → Result Rows ApplyError
after_add column tests amount rows =
    cond (list_all (can_rise_where tests column amount) rows) (Ok (map (row_raised_where tests column amount) rows)) (Err ValueRange)

-- the rows without those that pass the tests
abbrev pub after_drop : Query → Rows → Rows
after_drop tests rows = filter (λ (row : Cells). not (matches tests row)) rows

-- the rows of a table of these columns after an action with these values
abbrev pub rows_after : List Column → Action → Cells → Rows → Result Rows ApplyError
rows_after columns Put values rows = Ok (after_put columns values rows)
rows_after columns (Add column tests) values rows = after_add column tests (column_number 0 values) rows
rows_after columns (Drop tests) values rows = Ok (after_drop tests rows)
