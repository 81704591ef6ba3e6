-- The row that a call puts, once its uniqueness is settled.
use Rattle.std.specs.Prelude.{ℕ, Option, Some, None, Result, Ok, Err}
use Rattle.rep_values.specs.declared.refusal.ApplyError.{ApplyError}
use Rattle.rep_values.specs.declared.refusal.ApplyError.TheVariants.{UniqueConflict, CheckFailed}
use Rattle.rep_schema.specs.declared.schema.Schema.{Schema}
use Rattle.rep_schema.specs.declared.check.Check.{Check}
use Rattle.rep_schema.specs.Tables.{Cells}
use Rattle.rep_schema.specs.Checks.{failed_check}
use Rattle.unique_resolve.specs.declared.settled.Settled.{Settled}
use Rattle.unique_resolve.specs.declared.settled.Settled.TheVariants.{Fits, Dropped, Conflict}

-- a row where no check failed, or that check
abbrev pub checked_row : Option Check → Cells → Result (Option Cells) ApplyError
checked_row None row = Ok (Some row)
checked_row (Some check) row = Err (CheckFailed check.name)

-- the row that a settlement puts into a table, tested by its checks; none where the row is given up
abbrev pub row_to_put : Schema → ℕ → Settled → Result (Option Cells) ApplyError
row_to_put schema table (Fits row) = checked_row (failed_check schema table row) row
row_to_put schema table Dropped = Ok None
row_to_put schema table (Conflict name) = Err (UniqueConflict name)
