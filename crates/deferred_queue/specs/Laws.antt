-- What holds of every stream of a queue.
use Rattle.std.specs.Prelude.{◌≡◌, ◌≢◌, ℕ, ◌+◌, ◌<◌, ◌≤◌, List, [], ◌∷◌, Some, None, option_map}
use Rattle.std.specs.List.{AllByRecursion}
use Rattle.rep_values.specs.declared.name.SiteName.{SiteName}
use Rattle.deferred_queue.specs.declared.destination.Destination.{Destination}
use Rattle.deferred_queue.specs.declared.queued_txn.QueuedTxn.{QueuedTxn}
use Rattle.deferred_queue.specs.Streams.{Deferred, InStream, queue_stream_to, at_position, stream_place, last_position, numbered}

-- a transaction stands at each position from 1 to the last
abbrev pub PositionsAreFull : Type 0
PositionsAreFull = (site : SiteName) (deferred : List Deferred) (position : ℕ) → 1 ≤ position → position ≤ last_position site deferred
    → at_position position (queue_stream_to site deferred) ≢ None

-- a later position has a greater number
abbrev pub NumbersRise : Type 0
NumbersRise = (site : SiteName) (deferred : List Deferred) (early late : ℕ) (a b : InStream) → early < late
    → at_position early (queue_stream_to site deferred) ≡ Some a → at_position late (queue_stream_to site deferred) ≡ Some b → a.number < b.number

-- each transaction depends on a position before the one that it got
abbrev pub DependOnEarlier : List Deferred → Type 0
DependOnEarlier [] = Unit {0}
DependOnEarlier (deferred ∷ older) = AllByRecursion (λ (d : Destination). d.dep ≤ last_position d.site older) deferred.to × DependOnEarlier older

-- then so it is at each position of a stream
abbrev pub DepsAreEarlier : Type 0
DepsAreEarlier = (site : SiteName) (deferred : List Deferred) (position : ℕ) (a : InStream) → DependOnEarlier deferred
    → at_position position (queue_stream_to site deferred) ≡ Some a → a.dep < position

-- the number of what stands in a stream is within the queue, and the queue has the same transaction at it, with what the
-- site had seen before it
abbrev pub NumbersAreQueued : Type 0
NumbersAreQueued = (site : SiteName) (deferred : List Deferred) (position : ℕ) (a : InStream) → at_position position (queue_stream_to site deferred) ≡ Some a
    → option_map (λ (d : Deferred). d.cargo) (at_position a.number deferred) ≡ Some a.cargo

-- where it isn't purged, it stands among the transactions in order
abbrev pub SentAreInOrder : Type 0
SentAreInOrder = (site : SiteName) (deferred : List Deferred) (position : ℕ) (a : InStream) (cargo : QueuedTxn) → at_position position (queue_stream_to site deferred) ≡ Some a → a.cargo ≡ Some cargo
    → (place : ℕ) × (at_position (place + 1) (numbered deferred) ≡ Some (record { number = a.number; cargo = cargo }))

-- by its number it is found at its position
abbrev pub PlacesAreFound : Type 0
PlacesAreFound = (site : SiteName) (deferred : List Deferred) (position : ℕ) (a : InStream) → at_position position (queue_stream_to site deferred) ≡ Some a
    → stream_place a.number (queue_stream_to site deferred) ≡ Some (record { position = position; dep = a.dep })
