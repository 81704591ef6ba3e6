-- What always holds of what an outbox keeps.
use Rattle.std.specs.Prelude.{◌≡◌, ℕ, ◌+◌, ◌≤◌, List, length, map}
use Rattle.std.specs.List.{AllByRecursion}
use Rattle.rep_values.specs.declared.name.SiteName.{SiteName}
use Rattle.dependency_index.specs.declared.token.Token.{Token}
use Rattle.dependency_index.specs.Dependencies.{NotedStream, IsNoted}
use Rattle.deferred_queue.specs.Streams.{Deferred, Mark, last_position}
use Rattle.site_state.specs.State.{DestinationState}
use Rattle.site_state.specs.Packets.{count_opened}
use Rattle.site_state.specs.Deferrals.{StandApart}
use Rattle.site_outbox.specs.declared.destination_entry.DestinationEntry.{DestinationEntry}
use Rattle.site_outbox.specs.DestinationEntries.{with_marks}

-- of the stream to a site so many positions are noted
pub record IsNotedTo (noted : List NotedStream) (site : SiteName) (last : ℕ) : Type 0 where
  pub stream : List (List Token)
  pub is : IsNoted noted site stream
  pub long : length stream ≡ last

-- a destination has acknowledged no position behind its last one, and that is no transaction behind the count
pub record IsWithin (count : ℕ) (deferred : List Deferred) (d : DestinationState) : Type 0 where
  pub acked : d.acked ≤ last_position d.site deferred
  pub last : count_opened d.opened + last_position d.site deferred ≤ count

-- the destinations stand in one order and are apart, each position is noted, and no number is behind the count
pub record IsOutbox (outlets : List DestinationEntry) (marks : List Mark) (deferred : List Deferred) (noted : List NotedStream) (count purged : ℕ) : Type 0 where
  pub marked : map (λ (m : Mark). m.site) marks ≡ map (λ (o : DestinationEntry). o.site) outlets
  pub indexed : map (λ (s : NotedStream). s.kept.site) noted ≡ map (λ (o : DestinationEntry). o.site) outlets
  pub apart : StandApart (with_marks outlets marks)
  pub streams : (site : SiteName) → IsNotedTo noted site (last_position site deferred)
  pub each : AllByRecursion (IsWithin count deferred) (with_marks outlets marks)
  pub counted : length deferred ≡ count
  pub purged_within : purged ≤ count
