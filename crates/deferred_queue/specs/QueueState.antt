-- How a queue keeps its streams: one list of entries for each destination.
use Rattle.std.specs.Prelude.{◌≡◌, ℕ, zero, suc, ◌+◌, ◌-◌, ◌≤◌, ◌==◌, Bool, true, not, cond, max, nat_le, List, [], ◌∷◌, length, map, filter_map, Option, Some, None, option_map}
use Rattle.std.specs.List.{AllByRecursion, list_all}
use Rattle.rep_values.specs.declared.name.SiteName.{SiteName}
use Rattle.deferred_queue.specs.declared.queued_txn.QueuedTxn.{QueuedTxn}
use Rattle.deferred_queue.specs.declared.destination.Destination.{Destination}
use Rattle.deferred_queue.specs.declared.destination.Place.{Place}
use Rattle.deferred_queue.specs.declared.entries.Entry.{Entry}
use Rattle.deferred_queue.specs.Streams.{Deferred, Mark, IsDestination, destination_to}
use Rattle.rep_values.specs.SiteNames.{is_same_site}

module _ {X : Type 0} where
  -- numbers from 1 to a bound, each below the one before
  abbrev pub FallsFrom : ℕ → List (Entry X) → Type 0
  FallsFrom bound [] = Unit {0}
  FallsFrom bound (e ∷ es) = (1 ≤ e.number) × (e.number ≤ bound) × FallsFrom (e.number - 1) es

  -- numbers from 1, each below the one before
  abbrev pub Falls : List (Entry X) → Type 0
  Falls entries = (bound : ℕ) × FallsFrom bound entries

  -- the entry with a number
  abbrev pub entry_of : ℕ → List (Entry X) → Option (Entry X)
  entry_of number [] = None
  entry_of number (e ∷ es) = cond (e.number == number) (Some e) (entry_of number es)

  -- the position of the entry with a number, the oldest at 1
  abbrev pub position_of : ℕ → List (Entry X) → Option ℕ
  position_of number [] = None
  position_of number (e ∷ es) = cond (e.number == number) (Some (length es + 1)) (position_of number es)

-- what is kept for a destination: how far it has acknowledged, and its entries, the newest first: the positions that its
-- transactions depend on
pub record Kept : Type 0 where
  pub site : SiteName
  pub acked : ℕ
  pub entries : List (Entry ℕ)

-- what is kept, how far it was acknowledged at the last purge, and how many entries can be added without memory
pub record QueueState : Type 0 where
  pub kept : Kept
  pub swept : ℕ
  pub room : ℕ

-- a stream in which nothing is queued
abbrev pub new_held : SiteName → QueueState
new_held site = record { kept = record { site = site; acked = 0; entries = [] }; swept = 0; room = 0 }

-- what the streams hold
abbrev pub kept_of : List QueueState → List Kept
kept_of helds = map (λ (h : QueueState). h.kept) helds

-- a stream as it was acknowledged at the last purge
abbrev pub swept_as : QueueState → Kept
swept_as h = record { site = h.kept.site; acked = h.swept; entries = h.kept.entries }

-- the streams as they were then
abbrev pub swept_of : List QueueState → List Kept
swept_of helds = map swept_as helds

-- the room of each stream
abbrev pub rooms_of : List QueueState → List ℕ
rooms_of helds = map (λ (h : QueueState). h.room) helds

-- the transaction under a number, with what the site had seen before it, None where it isn't kept
abbrev pub queued_txn_of : ℕ → List (Entry QueuedTxn) → Option QueuedTxn
queued_txn_of number kept = option_map (λ (e : Entry QueuedTxn). e.value) (entry_of number kept)

-- those under the numbers up to a count, the newest first
abbrev pub queued_txns_to : ℕ → List (Entry QueuedTxn) → List (Option QueuedTxn)
queued_txns_to zero kept = []
queued_txns_to (suc count) kept = queued_txn_of (suc count) kept ∷ queued_txns_to count kept

-- a destination whose stream has an entry
abbrev pub sent_to : SiteName → Option (Entry ℕ) → Option Destination
sent_to site entry = option_map (λ (e : Entry ℕ). record { site = site; dep = e.value }) entry

-- the position of the entry with a number, and what it depends on
abbrev pub place_in : ℕ → List (Entry ℕ) → Option Place
place_in number [] = None
place_in number (e ∷ es) = cond (e.number == number) (Some (record { position = length es + 1; dep = e.value })) (place_in number es)

-- a position, if there is one, isn't behind a mark
abbrev pub is_within : Option ℕ → ℕ → Bool
is_within None acked = true
is_within (Some position) acked = nat_le position acked

-- the stream has no entry with a number, or has acknowledged it
abbrev pub has_passed : ℕ → Kept → Bool
has_passed number k = is_within (position_of number k.entries) k.acked

-- a number that isn't passed by each stream
abbrev pub is_unpassed : List Kept → ℕ → Bool
is_unpassed streams number = not (list_all (has_passed number) streams)

-- the destinations of a transaction, by its number: the streams that have an entry of it
abbrev pub destinations_of : ℕ → List Kept → List Destination
destinations_of number streams = filter_map (λ (k : Kept). sent_to k.site (entry_of number k.entries)) streams

-- the transactions, the newest first, with their destinations
abbrev pub queued : List Kept → List (Option QueuedTxn) → List Deferred
queued streams [] = []
queued streams (cargo ∷ older) = record { cargo = cargo; to = destinations_of (length older + 1) streams } ∷ queued streams older

-- how far a stream is acknowledged, with its site
abbrev pub stream_mark : Kept → Mark
stream_mark k = record { site = k.site; acked = k.acked }

-- the mark of each stream
abbrev pub stream_marks : List Kept → List Mark
stream_marks streams = map stream_mark streams

-- the entries of the stream to a site, none for a site that is no destination
abbrev pub entries_to : SiteName → List Kept → List (Entry ℕ)
entries_to site [] = []
entries_to site (k ∷ ks) = cond (is_same_site k.site site) k.entries (entries_to site ks)

-- whether this is the stream to a site
abbrev pub is_stream_to : SiteName → QueueState → Bool
is_stream_to site h = is_same_site h.kept.site site

-- the entries of a stream that was looked up
abbrev pub entries_found : Option QueueState → List (Entry ℕ)
entries_found None = []
entries_found (Some h) = h.kept.entries

-- how far a stream that was looked up is acknowledged
abbrev pub acked_found : Option QueueState → ℕ
acked_found None = 0
acked_found (Some h) = h.kept.acked

-- each entry depends on an earlier position
abbrev pub DependBack : List (Entry ℕ) → Type 0
DependBack [] = Unit {0}
DependBack (e ∷ es) = (e.value ≤ length es) × DependBack es

-- streams to the same site are the same
abbrev pub AreAlike : List Kept → Type 0
AreAlike [] = Unit {0}
AreAlike (k ∷ ks) = AllByRecursion (λ (other : Kept). other.site ≡ k.site → other ≡ k) ks × AreAlike ks

-- a stream whose numbers rise up to the count of transactions, whose dependencies are earlier, and that is acknowledged up
-- to its end at most
pub record IsStream (count : ℕ) (k : Kept) : Type 0 where
  pub falling : FallsFrom count k.entries
  pub earlier : DependBack k.entries
  pub within : k.acked ≤ length k.entries

-- the streams of a queue of so many transactions
pub record AreStreams (count : ℕ) (streams : List Kept) : Type 0 where
  pub each : AllByRecursion (IsStream count) streams
  pub alike : AreAlike streams

-- of the transactions that are kept, each up to the last one at the last purge waited for a stream then
pub record IsSwept (count last : ℕ) (streams : List Kept) (kept : List (Entry QueuedTxn)) : Type 0 where
  pub within : last ≤ count
  pub waiting : AllByRecursion (λ (e : Entry QueuedTxn). e.number ≤ last → is_unpassed streams e.number ≡ true) kept

-- the streams and the kept transactions of a queue of so many transactions, and how many these were at the last purge
pub record IsQueue (count last : ℕ) (streams : List QueueState) (kept : List (Entry QueuedTxn)) : Type 0 where
  pub streams_are : AreStreams count (kept_of streams)
  pub falling : FallsFrom count kept
  pub swept : IsSwept count last (swept_of streams) kept

-- a destination of the streams, and a position of its stream or 0
pub record CanGo (streams : List Kept) (d : Destination) : Type 0 where
  pub destination : IsDestination (stream_marks streams) d.site
  pub earlier : d.dep ≤ length (entries_to d.site streams)

-- the entries with one more, where the transaction goes to the destination
abbrev pub with_entry : Option Destination → ℕ → List (Entry ℕ) → List (Entry ℕ)
with_entry None number entries = entries
with_entry (Some d) number entries = record { number = number; value = d.dep } ∷ entries

-- the room, less one where the transaction goes to the destination
abbrev pub room_left : Option Destination → ℕ → ℕ
room_left None room = room
room_left (Some d) room = room - 1

-- a stream after a transaction was queued
abbrev pub extended : List Destination → ℕ → Kept → Kept
extended to number k = record { site = k.site; acked = k.acked; entries = with_entry (destination_to k.site to) number k.entries }

-- the same, with its room
abbrev pub held_extended : List Destination → ℕ → QueueState → QueueState
held_extended to number h = record { kept = extended to number h.kept; swept = h.swept; room = room_left (destination_to h.kept.site to) h.room }

-- a stream after a mark came in
abbrev pub stream_raised : SiteName → ℕ → Kept → Kept
stream_raised site mark k = record { site = k.site; acked = cond (is_same_site k.site site) (max k.acked mark) k.acked; entries = k.entries }

-- the same, with its room
abbrev pub held_raised : SiteName → ℕ → QueueState → QueueState
held_raised site mark h = record { kept = stream_raised site mark h.kept; swept = h.swept; room = h.room }

-- a stream after a purge
abbrev pub held_swept : QueueState → QueueState
held_swept h = record { kept = h.kept; swept = h.kept.acked; room = h.room }
