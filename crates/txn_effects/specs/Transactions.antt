-- What one whole transaction does: all of its calls, or nothing.
use Rattle.std.specs.Prelude.{ℕ, ◌+◌, List, [], ◌∷◌, ◌++◌, Result, Ok, Err}
use Rattle.rep_values.specs.declared.name.SiteName.{SiteName}
use Rattle.rep_values.specs.declared.refusal.ApplyError.{ApplyError}
use Rattle.rep_schema.specs.declared.schema.Schema.{Schema}
use Rattle.rep_schema.specs.declared.change.Change.{Change}
use Rattle.rep_schema.specs.Tables.{Rows}
use Rattle.rep_schema.specs.Putting.{after_changes}
use Rattle.rep_calls.specs.declared.call.Call.{Call}
use Rattle.rep_calls.specs.declared.call.Txn.{Txn}
use Rattle.unique_resolve.specs.Numbers.{Numbers}
use Rattle.txn_effects.specs.Parts.{result_then}
use Rattle.txn_effects.specs.Calls.{Effect, call_effect}

-- the call that fails, counted from 1, and why
pub record Failure : Type 0 where
  pub call : ℕ
  pub error : ApplyError

abbrev pub failing_at : {A : Type 0} → ℕ → Result A ApplyError → Result A Failure
failing_at call (Ok a) = Ok a
failing_at call (Err error) = Err (record { call = call; error = error })

-- earlier changes before the later ones
abbrev pub effect_behind : List Change → Result Effect Failure → Result Effect Failure
effect_behind changes (Ok effect) = Ok (record { changes = changes ++ effect.changes; numbers = effect.numbers })
effect_behind changes (Err failure) = Err failure

-- what calls from an origin do one after the other, the first of them having a number
abbrev pub calls_effect : Schema → SiteName → ℕ → List Call → List Rows → Numbers → Result Effect Failure
calls_effect schema origin number [] tables numbers = Ok (record { changes = []; numbers = numbers })
calls_effect schema origin number (call ∷ calls) tables numbers = result_then (failing_at number (call_effect schema tables numbers origin call))
    (λ effect. effect_behind effect.changes (calls_effect schema origin (number + 1) calls (after_changes schema effect.changes tables) effect.numbers))

-- what a transaction from an origin does to tables and counters: the changes of all its calls, or the first call that
-- fails and nothing else
abbrev pub txn_effect : Schema → SiteName → Txn → List Rows → Numbers → Result Effect Failure
txn_effect schema origin txn tables numbers = calls_effect schema origin 1 txn.calls tables numbers

-- the tables after a transaction; the ones from before where it fails
abbrev pub tables_by : Schema → Result Effect Failure → List Rows → List Rows
tables_by schema (Ok effect) tables = after_changes schema effect.changes tables
tables_by schema (Err failure) tables = tables

-- the counters after a transaction; the ones from before where it fails
abbrev pub numbers_by : Result Effect Failure → Numbers → Numbers
numbers_by (Ok effect) numbers = effect.numbers
numbers_by (Err failure) numbers = numbers
