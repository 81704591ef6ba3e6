-- What becomes of a transaction of calls that another master sent.
use Rattle.std.specs.Prelude.{List, Result, Ok, Err}
use Rattle.rep_schema.specs.Tables.{Rows}
use Rattle.txn_effects.specs.Transactions.{Failure}
use Rattle.sender_inbox.specs.declared.steps.ApplyOutcome.{ApplyOutcome}
use Rattle.sender_inbox.specs.declared.steps.ApplyOutcome.TheVariants.{Done, Failed}

-- by what its calls do: it is done, and nothing goes onward; or its first call that fails
abbrev pub outcome_by : Result (List Rows) Failure → ApplyOutcome
outcome_by (Ok tables) = Done 0
outcome_by (Err failure) = Failed failure.call failure.error
