-- The transactions of a queue with their destinations, and the streams that they make.
use Rattle.std.specs.Prelude.{◌≡◌, ◌≢◌, ℕ, ◌+◌, ◌≤◌, ◌==◌, Bool, cond, max, nat_le, List, [], ◌∷◌, length, map, filter_map, Option, Some, None, option_map}
use Rattle.std.specs.List.{cons_option, list_all}
use Rattle.rep_values.specs.declared.name.SiteName.{SiteName}
use Rattle.deferred_queue.specs.declared.queued_txn.QueuedTxn.{QueuedTxn}
use Rattle.deferred_queue.specs.declared.destination.Destination.{Destination}
use Rattle.deferred_queue.specs.declared.destination.Place.{Place}
use Rattle.rep_values.specs.SiteNames.{is_same_site}

-- a transaction and what the site had seen before it, None of both once it was purged, and its destinations, in the order in
-- which the queue has them
pub record Deferred : Type 0 where
  pub cargo : Option QueuedTxn
  pub to : List Destination

-- how far a destination has acknowledged its stream
pub record Mark : Type 0 where
  pub site : SiteName
  pub acked : ℕ

-- what a contract sees of a queue: its transactions, the newest first; a mark for each destination; and how many
-- transactions can be queued without memory
pub record Deferrals : Type 0 where
  pub deferred : List Deferred
  pub marks : List Mark
  pub spare : ℕ

-- a destination among others, by its site
abbrev pub destination_to : SiteName → List Destination → Option Destination
destination_to site [] = None
destination_to site (d ∷ ds) = cond (is_same_site d.site site) (Some d) (destination_to site ds)

-- a transaction in a stream: its number in the queue, the position that it depends on, and the transaction with what the
-- site had seen before it, None of both once it was purged
pub record InStream : Type 0 where
  pub number : ℕ
  pub dep : ℕ
  pub cargo : Option QueuedTxn

abbrev pub with_one : Option Destination → ℕ → Option QueuedTxn → List InStream → List InStream
with_one None number cargo stream = stream
with_one (Some d) number cargo stream = record { number = number; dep = d.dep; cargo = cargo } ∷ stream

-- the stream to a destination, the newest first: the transactions that have it among theirs; a transaction's number is
-- its place in the queue, from 1
abbrev pub queue_stream_to : SiteName → List Deferred → List InStream
queue_stream_to site [] = []
queue_stream_to site (deferred ∷ older) = with_one (destination_to site deferred.to) (length older + 1) deferred.cargo (queue_stream_to site older)

-- what stands at a position, the oldest at 1, of a list with the newest first
abbrev pub at_position : {X : Type 0} → ℕ → List X → Option X
at_position position [] = None
at_position position (x ∷ xs) = cond (position == length xs + 1) (Some x) (at_position position xs)

-- what was found in a stream, where it isn't purged
abbrev pub unpurged : Option InStream → Option InStream
unpurged None = None
unpurged (Some a) = option_map (λ (cargo : QueuedTxn). a) a.cargo

-- where the transaction with a number stands in a stream
abbrev pub stream_place : ℕ → List InStream → Option Place
stream_place number [] = None
stream_place number (a ∷ older) = cond (a.number == number) (Some (record { position = length older + 1; dep = a.dep })) (stream_place number older)

-- the last position of the stream to a site, 0 where there is none
abbrev pub last_position : SiteName → List Deferred → ℕ
last_position site deferred = length (queue_stream_to site deferred)

-- how far a site has acknowledged its stream, 0 for a site that is no destination
abbrev pub acked_by : SiteName → List Mark → ℕ
acked_by site [] = 0
acked_by site (m ∷ ms) = cond (is_same_site m.site site) m.acked (acked_by site ms)

-- a mark counts where it is higher than the one before
abbrev pub raised_mark : SiteName → ℕ → Mark → Mark
raised_mark site mark m = cond (is_same_site m.site site) (record { site = m.site; acked = max m.acked mark }) m

-- the destinations of a transaction in the order in which the queue has them
abbrev pub in_order : List Mark → List Destination → List Destination
in_order marks to = filter_map (λ (m : Mark). option_map (λ (d : Destination). record { site = m.site; dep = d.dep }) (destination_to m.site to)) marks

-- a site is one of the queue's destinations
abbrev pub IsDestination : List Mark → SiteName → Type 0
IsDestination marks site = destination_to site (map (λ (m : Mark). record { site = m.site; dep = 0 }) marks) ≢ None

-- a destination of the queue, and a position before the one that comes next in its stream
pub record CanBeSent (queue : Deferrals) (d : Destination) : Type 0 where
  pub destination : IsDestination queue.marks d.site
  pub earlier : d.dep ≤ last_position d.site queue.deferred

-- no two of these destinations are the same site
abbrev pub DestinationsApart : List Destination → Type 0
DestinationsApart [] = Unit {0}
DestinationsApart (d ∷ ds) = (destination_to d.site ds ≡ None) × DestinationsApart ds

-- each of these destinations has acknowledged the position that a transaction has in its stream: the one behind those of
-- the older transactions
abbrev pub is_acknowledged : List Mark → List Deferred → List Destination → Bool
is_acknowledged marks older to = list_all (λ (d : Destination). nat_le (last_position d.site older + 1) (acked_by d.site marks)) to

-- the queue without the transactions that each of their destinations has acknowledged
abbrev pub purged : List Mark → List Deferred → List Deferred
purged marks [] = []
purged marks (deferred ∷ older) = record { cargo = cond (is_acknowledged marks older deferred.to) None deferred.cargo; to = deferred.to } ∷ purged marks older

-- a transaction and what the site had seen before it, at its number
pub record Numbered : Type 0 where
  pub number : ℕ
  pub cargo : QueuedTxn

-- the transactions that aren't purged with their numbers, the newest first
abbrev pub numbered : List Deferred → List Numbered
numbered [] = []
numbered (deferred ∷ older) = cons_option (option_map (λ (cargo : QueuedTxn). record { number = length older + 1; cargo = cargo }) deferred.cargo) (numbered older)
