-- How the evaluation of a transaction ends, and what that says of the tables that it wasn't evaluated on.
use Rattle.std.specs.Prelude.{◌≡◌, Result, Ok, Err}
use Rattle.rep_schema.specs.declared.change.Changes.{Changes}
use Rattle.unique_resolve.specs.Numbers.{Numbers}
use Rattle.txn_effects.specs.Calls.{Effect}
use Rattle.txn_effects.specs.Transactions.{Failure}
use Rattle.txn_effects.specs.Laws.{IsApplied}
use Rattle.txn_effects.specs.Contents.{Content, effect_on}
use Rattle.txn_apply.specs.declared.outcome.Ending.{Ending}
use Rattle.txn_apply.specs.declared.outcome.Ending.TheVariants.{Changed, Failed}
use Rattle.txn_apply.specs.Works.{WorkState}

-- the rows that change, or the failing call and its error
abbrev pub ending_of : Result Effect Failure → Ending
ending_of (Ok effect) = Changed (record { rows = effect.changes })
ending_of (Err failure) = Failed failure.call failure.error

-- what a transaction does that ends so and leaves the counters at these numbers
abbrev pub effect_of : Ending → Numbers → Result Effect Failure
effect_of (Changed changes) numbers = Ok (record { changes = changes.rows; numbers = numbers })
effect_of (Failed call error) numbers = Err (record { call = call; error = error })

abbrev pub IfChanged : Ending → (Changes → Type 0) → Type 0
IfChanged (Changed changes) Holds = Holds changes
IfChanged (Failed call error) Holds = Unit {0}

-- on tables and counters the work's transaction ends so and moves no counter, and its changes can be made there
pub record EndsSo (work : WorkState) (ending : Ending) (content : Content) : Type 0 where
  pub effect : effect_on work.schema work.origin work.txn content ≡ effect_of ending content.numbers
  pub applied : IfChanged ending (λ changes. IsApplied work.schema content.tables (record { changes = changes.rows; numbers = content.numbers }))
