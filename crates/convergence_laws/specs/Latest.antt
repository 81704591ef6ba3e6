-- Of the latest values of a row, its first ones among them, one is the greatest.
use Rattle.std.specs.Prelude.{◌≡◌, true, List, Some}
use Rattle.rep_values.specs.declared.name.SiteName.{SiteName}
use Rattle.rep_schema.specs.declared.schema.Schema.{Schema}
use Rattle.site_state.specs.State.{SiteState}
use Rattle.site_events.specs.Cluster.{Cluster, site_of}
use Rattle.site_events.specs.Events.{Event, run}
use Rattle.event_laws.specs.Fitting.{IsFitStart}
use Rattle.event_laws.specs.Waiting.{SitesLinkAsDeclared}
use Rattle.event_laws.specs.Beginning.{BaseRowsAreFilled}
use Rattle.convergence_laws.specs.Agreement.{LatestTellApart}

-- where the masters' base rows are filled in as the first master would, after every list of events, at each master: of the first
-- values of a row and the new ones of all parts applied to it those of one stamp and level are the same
abbrev pub LatestValuesTellApart : Type 0
LatestValuesTellApart = (schema : Schema) (start : Cluster) (events : List Event) → IsFitStart schema start → SitesLinkAsDeclared schema start.sites
    → BaseRowsAreFilled schema start.sites
    → (site : SiteName) (x : SiteState) → site_of site (run events start).sites ≡ Some x → x.here.is_master ≡ true → LatestTellApart schema x.base x.journal
