-- What one call does: what becomes of the row that it names, and of the counters.
use Rattle.std.specs.Prelude.{◌≡◌, ℕ, ◌<◌, true, false, cond, List, length, Option, Some, None, IfSome, Result, Ok, Err, slice_get}
use Rattle.std.specs.List.{AllByRecursion}
use Rattle.rep_values.specs.declared.name.SiteName.{SiteName}
use Rattle.rep_values.specs.declared.refusal.ApplyError.{ApplyError}
use Rattle.rep_values.specs.declared.refusal.ApplyError.TheVariants.{NoRow, DeleteConflict, UniqueConflict, CheckFailed}
use Rattle.rep_schema.specs.declared.schema.Schema.{Schema}
use Rattle.rep_schema.specs.declared.schema.Column.{Column}
use Rattle.rep_schema.specs.declared.change.Change.{Change}
use Rattle.rep_schema.specs.declared.check.Check.{Check}
use Rattle.rep_schema.specs.Tables.{Cells, Rows, columns_of, find_row, rows_of}
use Rattle.rep_schema.specs.Groups.{groups_of, named_columns, are_same}
use Rattle.rep_schema.specs.Checks.{failed_check}
use Rattle.rep_calls.specs.declared.call.Call.{Call}
use Rattle.rep_calls.specs.declared.call.Call.TheVariants.{Insert, Update, Delete}
use Rattle.rep_schema.specs.Putting.{changes_between}
use Rattle.conflict_detect.specs.Fits.{table_of}
use Rattle.conflict_detect.specs.KeysNamed.{key_named}
use Rattle.unique_resolve.specs.declared.settled.Settled.{Settled}
use Rattle.unique_resolve.specs.declared.settled.Settled.TheVariants.{Fits, Dropped, Conflict}
use Rattle.unique_resolve.specs.Numbers.{Numbers}
use Rattle.unique_resolve.specs.Settling.{Settlement, settlement_of}
use Rattle.txn_effects.specs.Parts.{result_then, settled_parts}

-- a column at this place is no key column
abbrev pub IsOffTheKey : List Column → ℕ → Type 0
IsOffTheKey columns place = IfSome (slice_get columns place) (λ column. column.key ≡ false)

-- no column of a named group is a key column
abbrev pub KeysStandAlone : Schema → Type 0
KeysStandAlone schema = (table : ℕ) → table < length schema.tables → (group : ℕ)
    → AllByRecursion (IsOffTheKey (columns_of schema table)) (named_columns (slice_get (groups_of schema table) group))

-- the row that a call names, where it is there
abbrev pub row_named : Schema → List Rows → Call → Option Cells
row_named schema tables call = find_row (columns_of schema (table_of call)) (key_named schema call) (rows_of tables (table_of call))

-- a row after a call, and the counters
pub record RowEffect : Type 0 where
  pub after : Option Cells
  pub numbers : Numbers

-- a row that fits is tested by the checks of its table: the first that it doesn't meet is the error
abbrev pub checked_effect : Option Check → Cells → Numbers → Result RowEffect ApplyError
checked_effect None row numbers = Ok (record { after = Some row; numbers = numbers })
checked_effect (Some check) row numbers = Err (CheckFailed check.name)

-- the row as its uniqueness was settled, where it meets the checks; the row as it was where it is given up, and then
-- nothing is tested
abbrev pub effect_by : Schema → ℕ → Settled → Option Cells → Numbers → Result RowEffect ApplyError
effect_by schema table (Fits row) before numbers = checked_effect (failed_check schema table row) row numbers
effect_by schema table Dropped before numbers = Ok (record { after = before; numbers = numbers })
effect_by schema table (Conflict name) before numbers = Err (UniqueConflict name)

abbrev pub settled_effect : Schema → ℕ → Settlement → Option Cells → Result RowEffect ApplyError
settled_effect schema table settlement before = effect_by schema table settlement.settled before settlement.numbers

-- what becomes of the row that a call from an origin names: an insert's row is settled as a new one and checked; an
-- update's parts are settled against the row, and then the row that they give is settled and checked, also where it is
-- the same; a delete takes the row that was sent
abbrev pub row_effect : Schema → List Rows → Numbers → SiteName → Call → Option Cells → Result RowEffect ApplyError
row_effect schema tables numbers origin (Insert table row) before = settled_effect schema table (settlement_of schema tables numbers origin table true row) before
row_effect schema tables numbers origin (Update table key parts) None = Err NoRow
row_effect schema tables numbers origin (Update table key parts) (Some found) = result_then (settled_parts schema table parts found)
    (λ row. settled_effect schema table (settlement_of schema tables numbers origin table false row) (Some found))
row_effect schema tables numbers origin (Delete table row) None = Err NoRow
row_effect schema tables numbers origin (Delete table row) (Some found) = cond (are_same found row) (Ok (record { after = None; numbers = numbers })) (Err DeleteConflict)

-- what changed, and the counters
pub record Effect : Type 0 where
  pub changes : List Change
  pub numbers : Numbers

-- what a call does to tables and counters
abbrev pub call_effect : Schema → List Rows → Numbers → SiteName → Call → Result Effect ApplyError
call_effect schema tables numbers origin call = result_then (row_effect schema tables numbers origin call (row_named schema tables call))
    (λ effect. Ok (record { changes = changes_between (table_of call) (row_named schema tables call) effect.after; numbers = effect.numbers }))
