-- What becomes of a transaction that another site sent, and of what a site keeps.
use Rattle.std.specs.Prelude.{◌≡◌, ℕ, List, Option, Some, None, Result, Ok, Err}
use Rattle.rep_values.specs.declared.name.SiteName.{SiteName}
use Rattle.rep_schema.specs.declared.schema.Schema.{Schema}
use Rattle.rep_schema.specs.Tables.{Rows}
use Rattle.rep_calls.specs.declared.call.Txn.{Txn}
use Rattle.rep_calls.specs.declared.past.PastEntry.{PastEntry}
use Rattle.unique_resolve.specs.Numbers.{Numbers}
use Rattle.txn_effects.specs.Calls.{Effect}
use Rattle.txn_effects.specs.Transactions.{Failure, tables_by, numbers_by}
use Rattle.site_state.specs.Contents.{txn_of, changes_by}
use Rattle.site_state.specs.Streams.{with_one}
use Rattle.site_state.specs.Packets.{past_in}
use Rattle.change_logs.specs.Noted.{NotesState}
use Rattle.site_outbox.specs.Outgoing.{Outgoing, Keeps}
use Rattle.sender_inbox.specs.declared.steps.ApplyOutcome.{ApplyOutcome}
use Rattle.sender_inbox.specs.declared.steps.ApplyOutcome.TheVariants.{Done, Failed}
use Rattle.site_engine.specs.Applying.{goes_on, onward_of}
use Rattle.site_engine.specs.Noting.{RowsAreNoted}

-- what becomes of it by what it does, behind so many queued transactions
abbrev pub outcome_by : Option (List PastEntry) → ℕ → Result Effect Failure → ApplyOutcome
outcome_by past count (Ok effect) = Done (onward_of past effect.changes count)
outcome_by past count (Err failure) = Failed failure.call failure.error

-- what of a site a transaction from elsewhere changes
pub record Parts : Type 0 where
  pub tables : List Rows
  pub numbers : Numbers
  pub out : Outgoing
  pub notes : NotesState

-- nothing changed but how much room there is
pub record AreAsBefore (schema : Schema) (before after : Parts) : Type 0 where
  pub tables : after.tables ≡ before.tables
  pub numbers : after.numbers ≡ before.numbers
  pub logs : after.notes.logs ≡ before.notes.logs
  pub snapshots : after.notes.snapshots ≡ before.notes.snapshots
  pub queue : (pasts : List (List PastEntry)) (txns : List Txn) → Keeps schema pasts txns before.out → Keeps schema pasts txns after.out

-- what the transaction does is done: its changed rows are noted at a moment, and are queued onward where they go onward
pub record AreChanged (schema : Schema) (moment : ℕ) (past : Option (List PastEntry)) (effect : Result Effect Failure) (before after : Parts) : Type 0 where
  pub tables : after.tables ≡ tables_by schema effect before.tables
  pub numbers : after.numbers ≡ numbers_by effect before.numbers
  pub noted : RowsAreNoted schema moment (changes_by effect) before.notes after.notes
  pub queue : (pasts : List (List PastEntry)) (txns : List Txn) → Keeps schema pasts txns before.out
      → Keeps schema (with_one (goes_on past (changes_by effect)) (past_in past) pasts)
      (with_one (goes_on past (changes_by effect)) (txn_of schema (changes_by effect)) txns) after.out
