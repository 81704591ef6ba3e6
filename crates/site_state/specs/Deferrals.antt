-- A site's queue as the queue's crate has it: each transaction with the destinations that have it, and without its calls
-- once it was purged.
use Rattle.std.specs.Prelude.{◌≡◌, ℕ, ◌+◌, nat_lt, nat_le, cond, List, [], ◌∷◌, length, map, filter_map, Option, Some, None}
use Rattle.rep_values.specs.declared.name.SiteName.{SiteName}
use Rattle.rep_schema.specs.declared.schema.Schema.{Schema}
use Rattle.rep_calls.specs.declared.call.Txn.{Txn}
use Rattle.rep_calls.specs.declared.past.PastEntry.{PastEntry}
use Rattle.deferred_queue.specs.declared.queued_txn.QueuedTxn.{QueuedTxn}
use Rattle.deferred_queue.specs.declared.destination.Destination.{Destination}
use Rattle.deferred_queue.specs.Streams.{Deferred, Mark, at_position}
use Rattle.site_state.specs.State.{DestinationState, SiteState, destination_of}
use Rattle.site_state.specs.Streams.{queue_of, queued_behind, dependency_of}
use Rattle.site_state.specs.Pasts.{pasts_of}
use Rattle.site_state.specs.Packets.{past_in}

abbrev pub place_since : Schema → Txn → List Txn → SiteName → Option ℕ → Option Destination
place_since schema txn older site None = None
place_since schema txn older site (Some opened) = cond (nat_lt opened (length older + 1))
    (Some (record { site = site; dep = dependency_of schema txn (queued_behind opened older) })) None

-- a destination of a transaction that was queued behind older ones, where it has it
abbrev pub place_for : Schema → Txn → List Txn → DestinationState → Option Destination
place_for schema txn older d = place_since schema txn older d.site d.opened

-- what the queue keeps under a number: nothing up to the last one that is purged
abbrev pub queued_txn_kept : ℕ → ℕ → Txn → Option (List PastEntry) → Option QueuedTxn
queued_txn_kept purged number txn past = cond (nat_le number purged) None (Some (record { txn = txn; past = past_in past }))

-- what the queue's crate has of transactions, the newest first, of which the first so many are purged, and of what the
-- site had seen before them
abbrev pub deferred_in : Schema → List DestinationState → ℕ → List (List PastEntry) → List Txn → List Deferred
deferred_in schema destinations purged pasts [] = []
deferred_in schema destinations purged pasts (txn ∷ older) = record {
  cargo = queued_txn_kept purged (length older + 1) txn (at_position (length older + 1) pasts);
  to = filter_map (place_for schema txn older) destinations;
} ∷ deferred_in schema destinations purged pasts older

-- what the queue's crate has of a site's queue
abbrev pub deferred_of : SiteState → List Deferred
deferred_of x = deferred_in x.schema x.destinations x.purged (pasts_of x) (queue_of x)

-- and of its marks
abbrev pub deferred_marks : SiteState → List Mark
deferred_marks x = map (λ (d : DestinationState). record { site = d.site; acked = d.acked }) x.destinations

-- no two destinations are the same site
abbrev pub StandApart : List DestinationState → Type 0
StandApart [] = Unit {0}
StandApart (d ∷ ds) = (destination_of d.site ds ≡ None) × StandApart ds
