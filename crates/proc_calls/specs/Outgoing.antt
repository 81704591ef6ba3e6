-- What a site of procedures keeps of what it sends: transactions with masters of their own each.
use Rattle.std.specs.Prelude.{◌≡◌, ℕ, ◌+◌, ◌<◌, ◌≤◌, ◌^◌, false, List, [], ◌∷◌, length, map}
use Rattle.rep_values.specs.declared.name.SiteName.{SiteName}
use Rattle.rep_calls.specs.declared.call.Txn.{Txn}
use Rattle.dependency_index.specs.declared.token.Token.{Token}
use Rattle.dependency_index.specs.Dependencies.{NotedStream, IsNoted, IsIndexed, noted_count, room_for, dependency_number}
use Rattle.deferred_queue.specs.declared.destination.Destination.{Destination}
use Rattle.deferred_queue.specs.Streams.{Deferred, Mark, last_position}
use Rattle.rep_schema.specs.Sites.{is_among}
use Rattle.site_state.specs.Streams.{with_one}
use Rattle.site_outbox.specs.Noting.{TokenStreams}
use Rattle.site_outbox.specs.OutboxInvariant.{IsNotedTo}
use Rattle.proc_state.specs.Carriers.{proc_tokens}
use Rattle.proc_state.specs.State.{stream_in, deferred_in}

-- what a contract sees of it: the queue as the queue's crate has it, with a mark for each master, and what is noted of the
-- streams
pub record CallsOut : Type 0 where
  pub deferred : List Deferred
  pub marks : List Mark
  pub noted : List NotedStream

-- no two of these names are the same
abbrev pub NamesApart : List SiteName → Type 0
NamesApart [] = Unit {0}
NamesApart (name ∷ names) = (is_among names name ≡ false) × NamesApart names

-- the sites of each queued transaction, the newest first
abbrev pub lists_in : List Deferred → List (List SiteName)
lists_in deferred = map (λ (d : Deferred). map (λ (to : Destination). to.site) d.to) deferred

-- these transactions are kept, the newest first, for these sites each: the queue has them, and the tokens of each stream are
-- noted
pub record Keeps (lists : List (List SiteName)) (txns : List Txn) (out : CallsOut) : Type 0 where
  pub queue : out.deferred ≡ deferred_in lists txns
  pub tokens : (site : SiteName) → IsNoted out.noted site (map proc_tokens (stream_in site lists txns))

-- ---- noting

-- the next position of the stream to a site can be noted, with so many tokens
pub record CanBeNoted (noted : List NotedStream) (size : ℕ) (site : SiteName) : Type 0 where
  pub indexed : IsIndexed noted site
  pub count : noted_count noted site + 1 < 2 ^ 64
  pub room : size ≤ room_for noted site

-- the streams with one transaction more to each of these sites
abbrev pub with_tokens : List SiteName → List Token → TokenStreams → TokenStreams
with_tokens sites tokens streams site = with_one (is_among sites site) tokens (streams site)

-- a site as a destination, with the position of its stream on which a transaction with these tokens depends
abbrev pub placed : List Token → TokenStreams → SiteName → Destination
placed tokens streams site = record { site = site; dep = dependency_number tokens (streams site) }

-- ---- what always holds

-- the masters are apart and stand in one order, each position is noted, and each transaction has a number
pub record IsOutbox (masters : List SiteName) (marks : List Mark) (deferred : List Deferred) (noted : List NotedStream) (count : ℕ) : Type 0 where
  pub marked : map (λ (m : Mark). m.site) marks ≡ masters
  pub indexed : map (λ (s : NotedStream). s.kept.site) noted ≡ masters
  pub apart : NamesApart masters
  pub streams : (site : SiteName) → IsNotedTo noted site (last_position site deferred)
  pub counted : length deferred ≡ count
