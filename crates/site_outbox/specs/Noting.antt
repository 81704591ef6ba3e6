-- What is noted of a transaction that goes to each destination that is open, and on which positions it depends.
use Rattle.std.specs.Prelude.{◌≡◌, ℕ, ◌+◌, ◌^◌, ◌<◌, ◌≤◌, ◌&&◌, is_some, List, [], ◌∷◌, Option, Some, None}
use Rattle.std.specs.List.{cons_option}
use Rattle.rep_values.specs.declared.name.SiteName.{SiteName}
use Rattle.dependency_index.specs.declared.token.Token.{Token}
use Rattle.dependency_index.specs.Dependencies.{NotedStream, IsNoted, IsIndexed, noted_count, room_for, dependency_number}
use Rattle.deferred_queue.specs.declared.destination.Destination.{Destination}
use Rattle.rep_values.specs.SiteNames.{is_same_site}
use Rattle.site_state.specs.Streams.{with_one}
use Rattle.site_outbox.specs.declared.destination_entry.DestinationEntry.{DestinationEntry}

-- the tokens of each transaction of the stream to each site, the newest first
abbrev pub TokenStreams : Type 0
TokenStreams = SiteName → List (List Token)

-- these are the streams that are noted
abbrev pub AreNoted : List NotedStream → TokenStreams → Type 0
AreNoted noted streams = (site : SiteName) → IsNoted noted site (streams site)

-- the next position of the stream to an outlet can be noted, with so many tokens
pub record Waits (noted : List NotedStream) (size : ℕ) (o : DestinationEntry) : Type 0 where
  pub indexed : IsIndexed noted o.site
  pub count : noted_count noted o.site + 1 < 2 ^ 64
  pub room : size ≤ room_for noted o.site

-- the streams with one transaction more to an outlet, where it is open
abbrev pub after_one : DestinationEntry → List Token → TokenStreams → TokenStreams
after_one o tokens streams site = with_one (is_same_site o.site site && is_some o.opened) tokens (streams site)

-- the streams with one transaction more to each outlet that is open
abbrev pub after_each : List DestinationEntry → List Token → TokenStreams → TokenStreams
after_each [] tokens streams = streams
after_each (o ∷ os) tokens streams = after_each os tokens (after_one o tokens streams)

-- a site as a destination of a transaction, where it is open, with the position on which the transaction depends there
abbrev pub place_at : List Token → TokenStreams → SiteName → Option ℕ → Option Destination
place_at tokens streams site None = None
place_at tokens streams site (Some opened) = Some (record { site = site; dep = dependency_number tokens (streams site) })

-- the same of an outlet
abbrev pub placed : List Token → TokenStreams → DestinationEntry → Option Destination
placed tokens streams o = place_at tokens streams o.site o.opened

-- the destinations of a transaction that goes to one outlet after the other
abbrev pub places : List DestinationEntry → List Token → TokenStreams → List Destination
places [] tokens streams = []
places (o ∷ os) tokens streams = cons_option (placed tokens streams o) (places os tokens (after_one o tokens streams))

-- a transaction's tokens are noted of each outlet that is open, and these are its destinations
pub record Notes (outlets : List DestinationEntry) (tokens : List Token) (streams : TokenStreams) (noted : List NotedStream) (to : List Destination) : Type 0 where
  pub list : to ≡ places outlets tokens streams
  pub all : AreNoted noted (after_each outlets tokens streams)
