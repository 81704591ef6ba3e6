-- The laws of missing rows.
use Rattle.std.specs.Prelude.{◌≡◌, true, false, List, Some}
use Rattle.rep_values.specs.declared.name.SiteName.{SiteName}
use Rattle.rep_schema.specs.declared.schema.Schema.{Schema}
use Rattle.site_state.specs.State.{SiteState}
use Rattle.rep_schema.specs.Sites.{is_late_master}
use Rattle.site_events.specs.Cluster.{Cluster, site_of}
use Rattle.site_events.specs.Events.{Event, run}
use Rattle.event_laws.specs.Fitting.{IsFitStart}
use Rattle.event_laws.specs.Waiting.{SitesLinkAsDeclared}
use Rattle.error_cause_laws.specs.Excuses.{ErrorsAreSo, RefusalsAreSo}
use Rattle.error_cause_laws.specs.LostInserts.{dropped_before, NoRowIsOfALostInsert}
use Rattle.event_laws.specs.Beginning.{KeysAreShared}

-- after every list of events, at each master: where an error says that there is no row of a convergent table, the row's insert
-- is lost there, or was dropped before the master joined; likewise where an execution is refused
abbrev pub MissingRowsAreOfLostInserts : Type 0
MissingRowsAreOfLostInserts = (schema : Schema) (start : Cluster) (events : List Event) → IsFitStart schema start → SitesLinkAsDeclared schema start.sites → KeysAreShared schema start.sites
    → (site : SiteName) (x : SiteState) → site_of site (run events start).sites ≡ Some x → x.here.is_master ≡ true
    → ErrorsAreSo (NoRowIsOfALostInsert schema (λ table key. dropped_before schema table key events start site)) x.journal
    × RefusalsAreSo (NoRowIsOfALostInsert schema (λ table key. dropped_before schema table key events start site)) x

-- and at a master that was there from the start the row's insert is lost there
abbrev pub MissingRowsAreOfInsertsInError : Type 0
MissingRowsAreOfInsertsInError = (schema : Schema) (start : Cluster) (events : List Event) → IsFitStart schema start → SitesLinkAsDeclared schema start.sites → KeysAreShared schema start.sites
    → (site : SiteName) (x : SiteState) → site_of site (run events start).sites ≡ Some x → x.here.is_master ≡ true → is_late_master schema site ≡ false
    → ErrorsAreSo (NoRowIsOfALostInsert schema (λ table key. false)) x.journal × RefusalsAreSo (NoRowIsOfALostInsert schema (λ table key. false)) x
