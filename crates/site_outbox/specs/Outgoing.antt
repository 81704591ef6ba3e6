-- What a site keeps of its queue, and for which transactions.
use Rattle.std.specs.Prelude.{◌≡◌, ℕ, ◌≤◌, List, length, map, IfSome}
use Rattle.std.specs.List.{AllByRecursion}
use Rattle.rep_values.specs.declared.name.SiteName.{SiteName}
use Rattle.rep_schema.specs.declared.schema.Schema.{Schema}
use Rattle.rep_calls.specs.declared.call.Txn.{Txn}
use Rattle.rep_calls.specs.declared.past.PastEntry.{PastEntry}
use Rattle.deferred_queue.specs.Streams.{Deferred}
use Rattle.dependency_index.specs.Tokens.{txn_tokens}
use Rattle.dependency_index.specs.Dependencies.{NotedStream, IsNoted}
use Rattle.site_state.specs.State.{DestinationState, destination_of, opened_in}
use Rattle.site_state.specs.Streams.{stream_in}
use Rattle.site_state.specs.Deferrals.{deferred_in}

-- what a contract sees of an outbox: its destinations; the number up to which its queue is purged; the queue as the queue's
-- crate has it; and what is noted of the streams
pub record Outgoing : Type 0 where
  pub destinations : List DestinationState
  pub purged : ℕ
  pub deferred : List Deferred
  pub noted : List NotedStream

-- an outbox keeps these transactions, the newest first, with what the site had seen before each: each stream has those behind
-- the count at which it was opened, and their tokens are noted
pub record Keeps (schema : Schema) (pasts : List (List PastEntry)) (txns : List Txn) (out : Outgoing) : Type 0 where
  pub seen : length pasts ≡ length txns
  pub queue : out.deferred ≡ deferred_in schema out.destinations out.purged pasts txns
  pub tokens : (site : SiteName) → IsNoted out.noted site (map (txn_tokens schema) (stream_in (opened_in (destination_of site out.destinations)) txns))
  pub purged_within : out.purged ≤ length txns
  pub opened_within : AllByRecursion (λ (d : DestinationState). IfSome d.opened (λ opened. opened ≤ length txns)) out.destinations
