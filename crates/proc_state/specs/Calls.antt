-- What calls of procedures do to tables, one after the other: all of them, or nothing.
use Rattle.std.specs.Prelude.{◌≡◌, ℕ, ◌+◌, ◌<◌, ◌≤◌, Bool, false, List, [], ◌∷◌, length, Option, Some, None, Result, Ok, Err, slice_get, slice_set}
use Rattle.std.specs.List.{AllByRecursion, list_all}
use Rattle.rep_values.specs.declared.refusal.ApplyError.{ApplyError}
use Rattle.rep_schema.specs.declared.schema.Schema.{Schema}
use Rattle.rep_schema.specs.declared.schema.Column.{Column}
use Rattle.rep_schema.specs.declared.schema.Kind.TheVariants as kind
use Rattle.rep_schema.specs.Tables.{Cells, Rows, columns_of, constraints_of, rows_of}
use Rattle.rep_schema.specs.Fitting.{fits_kind, row_fits}
use Rattle.snapshot_query.specs.declared.query.Query.{Query}
use Rattle.snapshot_query.specs.declared.query.Test.{Test}
use Rattle.txn_effects.specs.Parts.{result_then}
use Rattle.txn_effects.specs.Transactions.{Failure, failing_at}
use Rattle.site_state.specs.Steps.{is_empty}
use Rattle.proc_state.specs.declared.procedure.Action.{Action}
use Rattle.proc_state.specs.declared.procedure.Action.TheVariants.{Put, Add, Drop}
use Rattle.proc_state.specs.declared.procedure.Procedure.{Procedure}
use Rattle.proc_state.specs.declared.call.ProcCall.{ProcCall}
use Rattle.proc_state.specs.Actions.{rows_after}

-- ---- procedures

-- each test is of a column of the table
abbrev pub AreTestsOf : List Column → Query → Type 0
AreTestsOf columns tests = AllByRecursion (λ (t : Test). t.column < length columns) tests.tests

-- a NUMBER column outside the key
abbrev pub TakesAmounts : Option Column → Type 0
TakesAmounts None = ⊥
TakesAmounts (Some column) = (column.kind ≡ kind.Number) × (column.key ≡ false)

-- the columns that an action names are columns of the table
abbrev pub ActsOn : List Column → Action → Type 0
ActsOn columns Put = Unit {0}
ActsOn columns (Add column tests) = TakesAmounts (slice_get columns column) × AreTestsOf columns tests
ActsOn columns (Drop tests) = AreTestsOf columns tests

-- a procedure of a table of the schema with at most 30 columns and no secondary constraint
pub record IsProcedure (schema : Schema) (p : Procedure) : Type 0 where
  pub table : p.table < length schema.tables
  pub width : length (columns_of schema p.table) ≤ 30
  pub unconstrained : constraints_of schema p.table ≡ []
  pub acts : ActsOn (columns_of schema p.table) p.action

-- each of these is such a procedure
abbrev pub AreProcedures : Schema → List Procedure → Type 0
AreProcedures schema procedures = AllByRecursion (IsProcedure schema) procedures

-- ---- calls that fit

-- one number in range
abbrev pub is_amount : Cells → Bool
is_amount [] = false
is_amount (value ∷ []) = fits_kind kind.Number value
is_amount (value ∷ other ∷ values) = false

-- values that an action takes: a row of the table for a put, one number in range for an add, none for a drop
abbrev pub values_fit : List Column → Action → Cells → Bool
values_fit columns Put values = row_fits columns values
values_fit columns (Add column tests) values = is_amount values
values_fit columns (Drop tests) values = is_empty values

abbrev pub found_fits : Schema → Option Procedure → Cells → Bool
found_fits schema None values = false
found_fits schema (Some p) values = values_fit (columns_of schema p.table) p.action values

-- a call is of a procedure that is there, and its values fit it
abbrev pub call_fits : Schema → List Procedure → ProcCall → Bool
call_fits schema procedures call = found_fits schema (slice_get procedures call.procedure) call.values

-- each of these calls fits
abbrev pub calls_fit : Schema → List Procedure → List ProcCall → Bool
calls_fit schema procedures calls = list_all (call_fits schema procedures) calls

-- ---- what they do

-- the tables after a procedure was called with these values: its own table alone changes
abbrev pub procedure_after : Schema → Procedure → Cells → List Rows → Result (List Rows) ApplyError
procedure_after schema p values tables = result_then (rows_after (columns_of schema p.table) p.action values (rows_of tables p.table))
    (λ rows. Ok (slice_set tables p.table rows))

abbrev pub found_after : Schema → Option Procedure → Cells → List Rows → Result (List Rows) ApplyError
found_after schema None values tables = Ok tables
found_after schema (Some p) values tables = procedure_after schema p values tables

-- the tables after a call; one of no procedure changes nothing
abbrev pub call_after : Schema → List Procedure → ProcCall → List Rows → Result (List Rows) ApplyError
call_after schema procedures call tables = found_after schema (slice_get procedures call.procedure) call.values tables

-- the tables after calls one after the other, the first of them having a number; or the first call that fails
abbrev pub calls_after : Schema → List Procedure → ℕ → List ProcCall → List Rows → Result (List Rows) Failure
calls_after schema procedures number [] tables = Ok tables
calls_after schema procedures number (call ∷ calls) tables =
    result_then (failing_at number (call_after schema procedures call tables)) (calls_after schema procedures (number + 1) calls)

-- the tables that calls leave: the ones from before where a call failed
abbrev pub tables_by : Result (List Rows) Failure → List Rows → List Rows
tables_by (Ok later) tables = later
tables_by (Err failure) tables = tables
