-- Where runs begin, and what holds after every one of them.
use Rattle.std.specs.Prelude.{◌≡◌, List, []}
use Rattle.std.specs.List.{AllByRecursion}
use Rattle.rep_values.specs.declared.name.SiteName.{SiteName}
use Rattle.rep_schema.specs.declared.schema.Schema.{Schema}
use Rattle.site_state.specs.State.{SenderState, SiteState, acked_of}
use Rattle.site_events.specs.Cluster.{Cluster}
use Rattle.site_events.specs.Events.{Event, run}

-- a site of a schema at which nothing has happened yet, whatever its base rows are
pub record IsNewSite (schema : Schema) (x : SiteState) : Type 0 where
  pub schema_is : x.schema ≡ schema
  pub journal : x.journal ≡ []
  pub arrived : AllByRecursion (λ (s : SenderState). s.arrived ≡ []) x.senders
  pub acked : (site : SiteName) → acked_of site x ≡ 0
  pub purged : x.purged ≡ 0

-- the sites are new and of one schema, and nothing was sent
pub record IsStart (schema : Schema) (w : Cluster) : Type 0 where
  pub sites : AllByRecursion (IsNewSite schema) w.sites
  pub sent : w.sent ≡ []

-- so it is with the sites after every list of events
abbrev pub InEveryRun : (List SiteState → Type 0) → Type 0
InEveryRun Holds = (schema : Schema) (start : Cluster) (events : List Event) → IsStart schema start → Holds (run events start).sites
