-- What a test lets through of rows.
use Rattle.std.specs.Prelude.{Bool, cond, Option, Some, None}
use Rattle.rep_schema.specs.Tables.{Cells}

-- what a test shows of a row that is or isn't there
abbrev pub shown_by : (Cells → Bool) → Option Cells → Option Cells
shown_by test None = None
shown_by test (Some row) = cond (test row) (Some row) None
