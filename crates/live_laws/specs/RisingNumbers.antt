-- Queue numbers that rise with positions.
use Rattle.std.specs.Prelude.{◌≡◌, ℕ, ◌≤◌, List, Some}
use Rattle.rep_values.specs.declared.name.SiteName.{SiteName}
use Rattle.rep_schema.specs.declared.schema.Schema.{Schema}
use Rattle.site_state.specs.declared.arrival.Arrival.{Arrival}
use Rattle.site_state.specs.State.{SiteState, arrived_at, first_number}
use Rattle.site_state.specs.Fits.{FinishedHaveArrived}
use Rattle.site_events.specs.Cluster.{Cluster, site_of}
use Rattle.site_events.specs.Events.{Event, run}
use Rattle.event_laws.specs.Starts.{IsStart}
use Rattle.event_laws.specs.Waiting.{SitesLinkAsDeclared}

-- what is finished of a sender arrived, and the queue numbers of what arrived from it are at least its first number and don't
-- fall where positions rise
pub record HasRisingNumbers (x : SiteState) : Type 0 where
  pub arrived : FinishedHaveArrived x.journal x.senders
  pub first : (origin : SiteName) (p : ℕ) (a : Arrival) → arrived_at origin p x.senders ≡ Some a → first_number origin x ≤ a.number
  pub rising : (origin : SiteName) (p q : ℕ) (a b : Arrival) → arrived_at origin p x.senders ≡ Some a → arrived_at origin q x.senders ≡ Some b → p ≤ q → a.number ≤ b.number

-- so it is at every site after every list of events, where sites are as the schema declares them
abbrev pub EverySiteHasRisingNumbers : Type 0
EverySiteHasRisingNumbers = (schema : Schema) (start : Cluster) (events : List Event) → IsStart schema start → SitesLinkAsDeclared schema start.sites
    → (site : SiteName) (x : SiteState) → site_of site (run events start).sites ≡ Some x → HasRisingNumbers x
