-- The laws of errors on convergent tables.
use Rattle.std.specs.Prelude.{◌≡◌, true, List, Some}
use Rattle.rep_values.specs.declared.name.SiteName.{SiteName}
use Rattle.rep_schema.specs.declared.schema.Schema.{Schema}
use Rattle.site_state.specs.State.{SiteState}
use Rattle.site_events.specs.Cluster.{Cluster, site_of}
use Rattle.site_events.specs.Events.{Event, run}
use Rattle.event_laws.specs.Fitting.{IsFitStart}
use Rattle.event_laws.specs.Waiting.{SitesLinkAsDeclared}
use Rattle.error_cause_laws.specs.Excuses.{ErrorsAreSo, RefusalsAreSo, NoRowIsMissing, NoKeyIsTaken, IsExcusedOn}
use Rattle.event_laws.specs.Beginning.{MastersShareKeys, KeysBeginAlike}

-- after every list of events, at each master: where an error says that there is no row of a convergent table, it was no base
-- row, and no insert of it was applied there before; likewise where an execution is refused
abbrev pub MissingRowsWereNeverThere : Type 0
MissingRowsWereNeverThere = (schema : Schema) (start : Cluster) (events : List Event) → IsFitStart schema start
    → (site : SiteName) (x : SiteState) → site_of site (run events start).sites ≡ Some x → x.here.is_master ≡ true
    → ErrorsAreSo (NoRowIsMissing schema x.base) x.journal × RefusalsAreSo (NoRowIsMissing schema x.base) x

-- after every list of events, at each master: a transaction on convergent tables fails, and an execution is refused, only where
-- there is no row, latest values tie, or a number leaves its range; never by a key that is taken
abbrev pub KeysAreNeverTaken : Type 0
KeysAreNeverTaken = (schema : Schema) (start : Cluster) (events : List Event) → IsFitStart schema start → SitesLinkAsDeclared schema start.sites → MastersShareKeys schema start.sites
    → (site : SiteName) (x : SiteState) → site_of site (run events start).sites ≡ Some x → x.here.is_master ≡ true
    → ErrorsAreSo (NoKeyIsTaken schema) x.journal × RefusalsAreSo (NoKeyIsTaken schema) x

-- after every list of events, at each master: an error of a transaction on convergent tables is excused, and so is an execution
-- that is refused
abbrev pub ErrorsAreExcused : Type 0
ErrorsAreExcused = (schema : Schema) (start : Cluster) (events : List Event) → IsFitStart schema start → SitesLinkAsDeclared schema start.sites → KeysBeginAlike schema start.sites
    → (site : SiteName) (x : SiteState) → site_of site (run events start).sites ≡ Some x → x.here.is_master ≡ true
    → ErrorsAreSo (IsExcusedOn schema x.base) x.journal × RefusalsAreSo (IsExcusedOn schema x.base) x
