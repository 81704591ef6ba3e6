-- One stream from a site to another: what has arrived of it is what the site that sends it has at each position.
use Rattle.std.specs.Prelude.{◌≡◌, ℕ, ◌+◌, List, Option, Some, None}
use Rattle.rep_values.specs.declared.name.SiteName.{SiteName}
use Rattle.rep_schema.specs.declared.schema.Schema.{Schema}
use Rattle.deferred_queue.specs.Streams.{at_position}
use Rattle.site_state.specs.declared.arrival.Arrival.{Arrival}
use Rattle.site_state.specs.State.{SiteState, arrived_at, first_number}
use Rattle.site_state.specs.Streams.{stream_to, dep_at}
use Rattle.site_state.specs.Pasts.{pasts_of}
use Rattle.site_events.specs.Cluster.{Cluster, site_of}
use Rattle.site_events.specs.Events.{Event, run}
use Rattle.event_laws.specs.Starts.{IsStart}
use Rattle.event_laws.specs.Waiting.{SitesLinkAsDeclared}

-- what has arrived at a position is what the stream of its origin has there: the transaction and its dependency number; its number
-- in the queue, behind the first number; and what the origin had seen before it
pub record IsOfStream (o : SiteState) (site : SiteName) (first position : ℕ) (a : Arrival) : Type 0 where
  pub place : a.position ≡ position
  pub txn : at_position position (stream_to site o) ≡ Some a.txn
  pub dep : a.dep ≡ dep_at o.schema position (stream_to site o)
  pub number : a.number ≡ first + position
  pub past : at_position a.number (pasts_of o) ≡ Some a.past

-- the origin is there, and it is of its stream
abbrev pub IsSentBy : Option SiteState → SiteName → ℕ → ℕ → Arrival → Type 0
IsSentBy None site first position a = ⊥
IsSentBy (Some o) site first position a = IsOfStream o site first position a

-- so it is with all that has arrived anywhere
abbrev pub ArrivalsAreOfStreams : List SiteState → Type 0
ArrivalsAreOfStreams sites = (site origin : SiteName) (x : SiteState) (position : ℕ) (a : Arrival) → site_of site sites ≡ Some x → arrived_at origin position x.senders ≡ Some a
    → IsSentBy (site_of origin sites) site (first_number origin x) position a

-- ---- runs

-- so it is with the sites after every list of events, where at first they are as the schema declares them and their streams meet
abbrev pub InEveryLinkedRun : (List SiteState → Type 0) → Type 0
InEveryLinkedRun Holds = (schema : Schema) (start : Cluster) (events : List Event) → IsStart schema start → SitesLinkAsDeclared schema start.sites → Holds (run events start).sites

-- such sites stay as the schema declares them, their streams meet, and nobody is open to a late master that isn't there
abbrev pub LinksStay : Type 0
LinksStay = (schema : Schema) (start : Cluster) (events : List Event) → IsStart schema start → SitesLinkAsDeclared schema start.sites → SitesLinkAsDeclared schema (run events start).sites
