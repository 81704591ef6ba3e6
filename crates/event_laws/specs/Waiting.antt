-- Nothing waits for ever: where all has arrived and a pass of any sender finishes nothing, nothing waits.
use Rattle.std.specs.Prelude.{◌≡◌, ◌≢◌, ℕ, ◌≤◌, true, List, Option, Some, None}
use Rattle.std.specs.List.{AllByRecursion}
use Rattle.rep_values.specs.declared.name.SiteName.{SiteName}
use Rattle.rep_schema.specs.declared.schema.Schema.{Schema}
use Rattle.rep_calls.specs.declared.call.Txn.{Txn}
use Rattle.deferred_queue.specs.Streams.{at_position}
use Rattle.site_state.specs.State.{SenderState, SiteState, opened_of, arrived_at}
use Rattle.site_state.specs.Journal.{finished}
use Rattle.site_state.specs.Streams.{stream_to, count_of}
use Rattle.site_state.specs.Passes.{site_pass}
use Rattle.rep_schema.specs.Sites.{is_late_master}
use Rattle.site_events.specs.Cluster.{Cluster, site_of}
use Rattle.site_events.specs.Events.{Event, run}
use Rattle.event_laws.specs.Starts.{IsStart}
use Rattle.event_laws.specs.Declared.{AreDeclared}

-- ---- where streams begin

-- a sender that is there is open to a site from the first number on that the site has of it, and of one that isn't there
-- that number is 0
abbrev pub IsFirstNumber : Option SiteState → SiteName → ℕ → Type 0
IsFirstNumber None site first = first ≡ 0
IsFirstNumber (Some o) site first = (opened_of site o ≡ Some first) × (first ≤ count_of o)

abbrev pub AreFirsts : List SiteState → SiteName → Option SiteState → Type 0
AreFirsts sites site None = Unit {0}
AreFirsts sites site (Some x) = AllByRecursion (λ (s : SenderState). IsFirstNumber (site_of s.origin sites) site s.first) x.senders

-- senders and their destinations agree on where each stream begins
abbrev pub StreamsMeet : List SiteState → Type 0
StreamsMeet sites = (site : SiteName) → AreFirsts sites site (site_of site sites)

-- nobody is open to a late master that isn't there
abbrev pub AbsentAreClosed : Schema → List SiteState → Type 0
AbsentAreClosed schema sites = (site absent : SiteName) (x : SiteState) → site_of site sites ≡ Some x → is_late_master schema absent ≡ true → site_of absent sites ≡ None
    → opened_of absent x ≡ None

-- the sites are as the schema declares them, and their streams meet
pub record SitesLinkAsDeclared (schema : Schema) (sites : List SiteState) : Type 0 where
  pub declared : AreDeclared schema sites
  pub streams : StreamsMeet sites
  pub closed : AbsentAreClosed schema sites

-- ---- what waits

-- all that was ever queued for a site has arrived there
abbrev pub IsDelivered : List SiteState → SiteName → SiteState → Type 0
IsDelivered sites site x = (origin : SiteName) (o : SiteState) (position : ℕ) (txn : Txn)
    → site_of origin sites ≡ Some o → at_position position (stream_to site o) ≡ Some txn
    → arrived_at origin position x.senders ≢ None

-- a pass of any sender finishes nothing
abbrev pub PassesFinishNothing : SiteState → Type 0
PassesFinishNothing x = (origin : SiteName) → (site_pass origin x).journal ≡ x.journal

-- what has arrived is finished
abbrev pub NothingWaits : SiteState → Type 0
NothingWaits x = (origin : SiteName) (position : ℕ) → arrived_at origin position x.senders ≢ None → finished origin x.journal position ≡ true

-- so it is at every site after every list of events
abbrev pub NothingWaitsForEver : Type 0
NothingWaitsForEver = (schema : Schema) (start : Cluster) (events : List Event) → IsStart schema start → SitesLinkAsDeclared schema start.sites
    → (site : SiteName) (x : SiteState) → site_of site (run events start).sites ≡ Some x
    → IsDelivered (run events start).sites site x → PassesFinishNothing x → NothingWaits x
