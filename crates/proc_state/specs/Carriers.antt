-- How calls of procedures are carried: each as an insert into the carrier of its table, whose row is 0 as key, the place of the
-- procedure, and a value for each column of the table.
use Rattle.std.specs.Prelude.{ℕ, pos, nat_abs, ◌==◌, ◌&&◌, Bool, cond, List, [], ◌∷◌, map, filter_map, take, drop, Option, Some, None, is_some, Result, slice_get, slice_set}
use Rattle.std.specs.List.{list_all}
use Rattle.rep_values.specs.declared.value.Value.{Value}
use Rattle.rep_values.specs.declared.value.Value.TheVariants.{Num, Words}
use Rattle.rep_schema.specs.declared.schema.Schema.{Schema}
use Rattle.rep_schema.specs.declared.schema.Column.{Column}
use Rattle.rep_schema.specs.Tables.{Cells, Rows, columns_of}
use Rattle.rep_schema.specs.Fitting.{row_fits}
use Rattle.rep_schema.specs.Kinds.{takes_numbers}
use Rattle.rep_schema.specs.Groups.{values_at, with_values, are_same}
use Rattle.rep_calls.specs.declared.call.Call.{Call}
use Rattle.rep_calls.specs.declared.call.Call.TheVariants.{Insert, Update, Delete}
use Rattle.rep_calls.specs.declared.call.Txn.{Txn}
use Rattle.conflict_detect.specs.Fits.{table_of}
use Rattle.txn_effects.specs.Transactions.{Failure}
use Rattle.dependency_index.specs.declared.token.Token.{Token}
use Rattle.dependency_index.specs.declared.token.Token.TheVariants as token
use Rattle.dependency_index.specs.Tokens.{share_token}
use Rattle.dependency_index.specs.Dependencies.{dependency_number}
use Rattle.proc_state.specs.declared.procedure.Action.{Action}
use Rattle.proc_state.specs.declared.procedure.Action.TheVariants.{Put, Add, Drop}
use Rattle.proc_state.specs.declared.procedure.Procedure.{Procedure}
use Rattle.proc_state.specs.declared.call.ProcCall.{ProcCall}
use Rattle.proc_state.specs.Calls.{calls_after, tables_by}

-- ---- a call as it is carried

-- 0, or the empty text where a column takes texts
abbrev pub blank : Column → Value
blank column = cond (takes_numbers column.kind) (Num (pos 0)) (Words [])

-- a blank for each column
abbrev pub blanks : List Column → Cells
blanks columns = map blank columns

-- the values in which an action's are carried: its row for a put, its amount at the column for an add, and blanks elsewhere
abbrev pub carried_values : List Column → Action → Cells → Cells
carried_values columns Put values = values
carried_values columns (Add column tests) values = with_values (column ∷ []) values (blanks columns)
carried_values columns (Drop tests) values = blanks columns

-- the row of a carrier: 0 as key, the place of a procedure, and values
abbrev pub carrier_row : ℕ → Cells → Cells
carrier_row place values = Num (pos 0) ∷ Num (pos place) ∷ values

abbrev pub carried_by : Schema → ℕ → Cells → Option Procedure → Call
carried_by schema place values None = Insert 0 (carrier_row place values)
carried_by schema place values (Some p) = Insert p.table (carrier_row place (carried_values (columns_of schema p.table) p.action values))

-- a call as it is carried
abbrev pub carried : Schema → List Procedure → ProcCall → Call
carried schema procedures call = carried_by schema call.procedure call.values (slice_get procedures call.procedure)

-- calls as a transaction
abbrev pub carried_txn : Schema → List Procedure → List ProcCall → Txn
carried_txn schema procedures calls = record { calls = map (carried schema procedures) calls }

-- ---- the call that is carried

abbrev pub place_in : Option Value → ℕ
place_in None = 0
place_in (Some (Num n)) = nat_abs n
place_in (Some (Words text)) = 0

-- the place of the procedure that a carrier's row names
abbrev pub place_named : Cells → ℕ
place_named row = place_in (slice_get row 1)

-- values in which an action's are carried: for a put a row that fits, for an add blanks but for a number in range at the
-- column, for a drop blanks
abbrev pub has_form : List Column → Action → Cells → Bool
has_form columns Put values = row_fits columns values
has_form columns (Add column tests) values = row_fits columns values && are_same (slice_set values column (Num (pos 0))) (blanks columns)
has_form columns (Drop tests) values = are_same values (blanks columns)

-- what an action takes of the values in which it is carried
abbrev pub values_in : Action → Cells → Cells
values_in Put values = values
values_in (Add column tests) values = values_at (column ∷ []) values
values_in (Drop tests) values = []

-- a row of the carrier of a table is of this procedure's form
abbrev pub is_row_of : Schema → ℕ → Cells → Procedure → Bool
is_row_of schema table row p = p.table == table && are_same (take 2 row) (carrier_row (place_named row) []) && has_form (columns_of schema p.table) p.action (drop 2 row)

abbrev pub call_by : Schema → ℕ → Cells → Option Procedure → Option ProcCall
call_by schema table row None = None
call_by schema table row (Some p) = cond (is_row_of schema table row p) (Some (record { procedure = place_named row; values = values_in p.action (drop 2 row) })) None

-- the call that is carried so; none where it has the form of no procedure
abbrev pub call_in : Schema → List Procedure → Call → Option ProcCall
call_in schema procedures (Insert table row) = call_by schema table row (slice_get procedures (place_named row))
call_in schema procedures (Update table key parts) = None
call_in schema procedures (Delete table row) = None

-- the calls that a transaction carries
abbrev pub calls_in : Schema → List Procedure → Txn → List ProcCall
calls_in schema procedures txn = filter_map (call_in schema procedures) txn.calls

-- each call of a transaction has the form of a procedure
abbrev pub is_carried : Schema → List Procedure → Txn → Bool
is_carried schema procedures txn = list_all (λ (call : Call). is_some (call_in schema procedures call)) txn.calls

-- ---- what a transaction does, and which ones depend on each other

-- the tables after the calls that a transaction carries; or the first of them that fails, from 1
abbrev pub txn_after : Schema → List Procedure → Txn → List Rows → Result (List Rows) Failure
txn_after schema procedures txn tables = calls_after schema procedures 1 (calls_in schema procedures txn) tables

-- the tables that a transaction leaves
abbrev pub tables_after : Schema → List Procedure → Txn → List Rows → List Rows
tables_after schema procedures txn tables = tables_by (txn_after schema procedures txn tables) tables

-- the token of a carried call, which stands for its whole table: the key of its carrier
abbrev pub call_token : Call → Token
call_token call = token.Key (table_of call) (Num (pos 0) ∷ [])

-- the tokens of a transaction, call by call
abbrev pub proc_tokens : Txn → List Token
proc_tokens txn = map call_token txn.calls

-- two transactions share a token
abbrev pub shares : Txn → Txn → Bool
shares txn other = share_token (proc_tokens txn) (proc_tokens other)

-- the dependency number of a transaction behind a stream: its greatest position whose transaction shares a token, or 0
abbrev pub dependency_of : Txn → List Txn → ℕ
dependency_of txn stream = dependency_number (proc_tokens txn) (map proc_tokens stream)
