-- What comes of a block of statements.
use Rattle.std.specs.Prelude.{◌≡◌, ◌+◌, ◌≤◌, false, List, ◌∷◌, length, map, Ok}
use Rattle.rep_schema.specs.declared.schema.Schema.{Schema}
use Rattle.rep_schema.specs.declared.change.Change.{Change}
use Rattle.rep_schema.specs.Tables.{Rows}
use Rattle.rep_calls.specs.declared.call.Txn.{Txn}
use Rattle.rep_calls.specs.declared.past.PastEntry.{PastEntry}
use Rattle.conflict_detect.specs.ChangeCalls.{call_of}
use Rattle.unique_resolve.specs.Numbers.{Numbers}
use Rattle.txn_effects.specs.Transactions.{txn_effect}
use Rattle.txn_effects.specs.declared.local.Here.{Here}
use Rattle.site_state.specs.Steps.{is_empty}
use Rattle.site_outbox.specs.Outgoing.{Outgoing, Keeps}
use Rattle.site_engine.specs.declared.committing.Queued.{Queued}

-- the changed rows of a block were queued as the transaction that makes them, behind what the outbox had
pub record IsQueued (schema : Schema) (here : Here) (tables : List Rows) (past : List PastEntry) (changes : List Change) (old new : Outgoing) (q : Queued) : Type 0 where
  pub some : is_empty changes ≡ false
  pub number : q.number ≡ length old.deferred + 1
  pub calls : q.txn.calls ≡ map (call_of schema) changes
  pub few : length q.txn.calls ≤ 1000
  pub applies : (numbers : Numbers) → txn_effect schema here.site q.txn tables numbers ≡ Ok (record { changes = changes; numbers = numbers })
  pub keeps : (pasts : List (List PastEntry)) (txns : List Txn) → Keeps schema pasts txns old → Keeps schema (past ∷ pasts) (q.txn ∷ txns) new
