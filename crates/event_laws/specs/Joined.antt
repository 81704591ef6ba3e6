-- What a join leaves: the master that joined, as a copy of another one, and the sites that were there.
use Rattle.std.specs.Prelude.{◌≡◌, ℕ, ◌&&◌, Bool, true, false, cond, List, [], ◌∷◌, ◌++◌, map, Option, Some, None, is_none}
use Rattle.std.specs.List.{AllByRecursion}
use Rattle.rep_values.specs.declared.name.SiteName.{SiteName}
use Rattle.rep_schema.specs.declared.schema.Schema.{Schema}
use Rattle.unique_resolve.specs.Numbers.{first_numbers}
use Rattle.rep_values.specs.SiteNames.{is_same_site}
use Rattle.site_state.specs.State.{SenderState, DestinationState, SiteState, first_number, destination_of, opened_of, acked_of}
use Rattle.site_state.specs.Contents.{content_of, tables_of}
use Rattle.site_state.specs.Streams.{queue_of, count_of, stream_to}
use Rattle.site_state.specs.Making.{master_here}
use Rattle.rep_schema.specs.Sites.{is_late_master}
use Rattle.site_state.specs.DeclaredSites.{IsDeclared}
use Rattle.site_events.specs.Cluster.{Cluster, site_of}
use Rattle.site_events.specs.Joins.{may_join}
use Rattle.site_events.specs.Events.{Event, Join, happens, run}
use Rattle.event_laws.specs.Starts.{IsStart}
use Rattle.event_laws.specs.Waiting.{SitesLinkAsDeclared}

-- ---- the one that joined

-- how much a master has queued, 0 where there is no such master
abbrev pub master_count : Option SiteState → ℕ
master_count None = 0
master_count (Some x) = cond x.here.is_master (count_of x) 0

-- a site is a copy of another one as it joins the sites that are there
pub record IsCopyOf (sites : List SiteState) (source : SiteState) (site : SiteName) (x : SiteState) : Type 0 where
  -- it is the master of its name, of one schema with the source and as that declares it
  pub schema : x.schema ≡ source.schema
  pub here : x.here ≡ master_here source.schema site
  pub declared : IsDeclared source.schema x
  -- it begins with the tables of the source, and with every counter at 0
  pub base : x.base ≡ tables_of source
  pub tables : tables_of x ≡ tables_of source
  pub counters : (content_of x).numbers ≡ first_numbers source.schema
  -- nothing has happened at it
  pub journal : x.journal ≡ []
  pub clock : x.stamps.clock ≡ 0
  pub last : x.stamps.last ≡ 0
  pub moment : x.moment ≡ 0
  -- it has no logs and no snapshots
  pub logs : x.logs ≡ []
  pub snapshots : x.snapshots ≡ []
  -- nothing has arrived, and its first numbers are what the masters have queued
  pub arrived : AllByRecursion (λ (s : SenderState). s.arrived ≡ []) x.senders
  pub firsts : (name : SiteName) → first_number name x ≡ master_count (site_of name sites)
  -- nothing is queued, purged or acknowledged, and each of its streams is empty
  pub queue : queue_of x ≡ []
  pub purged : x.purged ≡ 0
  pub acked : (name : SiteName) → acked_of name x ≡ 0
  pub streams : (name : SiteName) → stream_to name x ≡ []
  -- it is open from its first transaction on to each master that is there, and isn't to a late one that isn't there
  pub opened : (name : SiteName) (m : SiteState) → site_of name sites ≡ Some m → m.here.is_master ≡ true → opened_of name x ≡ Some 0
  pub closed : (name : SiteName) → site_of name sites ≡ None → is_late_master source.schema name ≡ true → opened_of name x ≡ None

-- ---- the others

-- a site has opened its stream to another one, and nothing else has changed
pub record HasOpened (site : SiteName) (x y : SiteState) : Type 0 where
  -- it wasn't open to it, and is now from the transaction on that it queues next
  pub closed : opened_of site x ≡ None
  pub opened : opened_of site y ≡ Some (count_of x)
  -- so that the stream is empty, and nothing of it is acknowledged
  pub stream : stream_to site y ≡ []
  pub acked : acked_of site y ≡ 0
  -- its other destinations are as before, and all that is no destination
  pub names : map (λ (d : DestinationState). d.site) y.destinations ≡ map (λ (d : DestinationState). d.site) x.destinations
  pub others : (name : SiteName) → is_same_site site name ≡ false → destination_of name y.destinations ≡ destination_of name x.destinations
  pub rest : y ≡ record x { destinations = y.destinations }

-- a site has joined as a copy of another one
pub record HasJoined (before : Cluster) (source : SiteState) (site : SiteName) (after : Cluster) : Type 0 where
  -- it is there, behind the others
  pub it : SiteState
  pub there : site_of site after.sites ≡ Some it
  pub names : map (λ (x : SiteState). x.here.site) after.sites ≡ map (λ (x : SiteState). x.here.site) before.sites ++ site ∷ []
  -- it is a copy
  pub copy : IsCopyOf before.sites source site it
  -- each master that was there has opened its stream to it, and each other site is as before
  pub masters : (name : SiteName) (x : SiteState) → site_of name before.sites ≡ Some x → x.here.is_master ≡ true → (y : SiteState) × (site_of name after.sites ≡ Some y) × HasOpened site x y
  pub others : (name : SiteName) (x : SiteState) → site_of name before.sites ≡ Some x → x.here.is_master ≡ false → site_of name after.sites ≡ Some x
  -- nothing was sent, and no pass was begun
  pub sent : after.sent ≡ before.sent
  pub begun : after.begun ≡ before.begun

-- ---- the laws

-- after every list of events a late master that isn't there and may join is there behind its join, as a copy of the one that the
-- join names
abbrev pub JoinsCopy : Type 0
JoinsCopy = (schema : Schema) (start : Cluster) (events : List Event) → IsStart schema start → SitesLinkAsDeclared schema start.sites
    → (site from : SiteName) (source : SiteState) → site_of site (run events start).sites ≡ None → site_of from (run events start).sites ≡ Some source
    → may_join (run events start).sites source site ≡ true
    → HasJoined (run events start) source site (run (Join site from ∷ events) start)

abbrev pub may_copy : List SiteState → SiteName → Option SiteState → Bool
may_copy sites site None = false
may_copy sites site (Some source) = may_join sites source site

-- a site isn't there, and may join as a copy of one that is
abbrev pub can_join : SiteName → SiteName → List SiteState → Bool
can_join site from sites = is_none (site_of site sites) && may_copy sites site (site_of from sites)

-- any other join changes nothing
abbrev pub OtherJoinsChangeNothing : Type 0
OtherJoinsChangeNothing = (w : Cluster) (site from : SiteName) → can_join site from w.sites ≡ false → happens (Join site from) w ≡ w
