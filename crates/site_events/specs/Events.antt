-- What may happen next, and whole runs.
use Rattle.std.specs.Prelude.{ℕ, ◌==◌, ◌||◌, Bool, true, false, not, cond, List, [], ◌∷◌, length, slice_get, Option, Some, None}
use Rattle.std.specs.List.{list_all}
use Rattle.std.specs.Option.{option_and_then}
use Rattle.rep_values.specs.declared.name.SiteName.{SiteName}
use Rattle.rep_schema.specs.declared.schema.Schema.{Schema}
use Rattle.rep_schema.specs.declared.schema.SiteEntry.{SiteEntry}
use Rattle.rep_schema.specs.Named.{site_named}
use Rattle.rep_calls.specs.declared.statement.Statement.{Statement}
use Rattle.rep_values.specs.SiteNames.{is_same_site}
use Rattle.packet_code.specs.declared.packet.Packet.{Packet}
use Rattle.packet_code.specs.declared.packet.Packet.TheVariants.{Carry, Mark}
use Rattle.site_state.specs.State.{DestinationState, SiteState}
use Rattle.rep_schema.specs.Sites.{is_among}
use Rattle.site_state.specs.Contents.{tables_of}
use Rattle.site_state.specs.Streams.{stream_to}
use Rattle.site_state.specs.Steps.{begun}
use Rattle.site_state.specs.Commits.{site_commit, site_clock}
use Rattle.site_state.specs.Packets.{site_packet, mark_of, site_accept}
use Rattle.site_state.specs.Passes.{site_apply}
use Rattle.site_state.specs.Errors.{site_execute, site_drop}
use Rattle.site_state.specs.Purges.{site_purge, site_purge_log}
use Rattle.site_state.specs.Refreshes.{site_refresh}
use Rattle.site_events.specs.Rules.{rows_ruled}
use Rattle.site_events.specs.Cluster.{Cluster, site_of, at_site}
use Rattle.site_events.specs.Joins.{joined}

-- what can happen to the sites and to what was sent
pub data Event : Type 0 where
  Commit : (site : SiteName) → (statements : List Statement) → Event
  SetClock : (site : SiteName) → (clock : ℕ) → Event
  Send : (from to : SiteName) → (position : ℕ) → Event
  SendMark : (from to : SiteName) → Event
  Deliver : (which : ℕ) → Event
  Begin : (site : SiteName) → Event
  Apply : (site origin : SiteName) → (position : ℕ) → Event
  Execute : (site origin : SiteName) → (position : ℕ) → Event
  Drop : (site origin : SiteName) → (position : ℕ) → Event
  Purge : (site : SiteName) → Event
  PurgeLog : (site : SiteName) → (table : ℕ) → Event
  Refresh : (site : SiteName) → Event
  Join : (site source : SiteName) → Event

-- ---- packets

abbrev pub with_packet : Option Packet → List Packet → List Packet
with_packet None sent = sent
with_packet (Some packet) sent = packet ∷ sent

abbrev pub packet_from : SiteName → ℕ → Option SiteState → Option Packet
packet_from to position None = None
packet_from to position (Some x) = site_packet to position x

abbrev pub mark_from : SiteName → Option SiteState → Option Packet
mark_from to None = None
mark_from to (Some x) = Some (mark_of to x)

-- the site that a packet goes to
abbrev pub receiver : Packet → SiteName
receiver (Carry from to number position dep past txn) = to
receiver (Mark from to mark) = to

-- a packet comes to its receiver, for the first time or again
abbrev pub delivered : Option Packet → List SiteState → List SiteState
delivered None sites = sites
delivered (Some packet) sites = at_site (receiver packet) (site_accept packet) sites

-- ---- at a master a pass is begun before anything is applied

-- these names without one
abbrev pub without : SiteName → List SiteName → List SiteName
without name [] = []
without name (n ∷ ns) = cond (is_same_site n name) (without name ns) (n ∷ without name ns)

abbrev pub is_master_in : Option SiteState → Bool
is_master_in None = false
is_master_in (Some x) = x.here.is_master

-- a position may be applied at a site: at a master a pass was begun there
abbrev pub may_apply : SiteName → Cluster → Bool
may_apply site w = is_among w.begun site || not (is_master_in (site_of site w.sites))

abbrev pub applied_where : Bool → SiteName → SiteName → ℕ → List SiteState → List SiteState
applied_where true site origin position sites = at_site site (site_apply origin position) sites
applied_where false site origin position sites = sites

-- ---- a refresh

-- the master of a snapshot site
abbrev pub master_of : Schema → SiteName → Option SiteName
master_of schema site = option_and_then (λ (entry : SiteEntry). entry.master) (site_named schema site)

abbrev pub has_acked_all : SiteState → DestinationState → Bool
has_acked_all x d = d.acked == length (stream_to d.site x)

-- every destination has acknowledged its whole stream
abbrev pub is_all_acked : SiteState → Bool
is_all_acked x = list_all (has_acked_all x) x.destinations

abbrev pub refreshed_from : Option SiteState → SiteState → SiteState
refreshed_from None x = x
refreshed_from (Some master) x = cond (not x.here.is_master) (site_refresh (rows_ruled x.schema (tables_of master) x.snapshots) master.moment x) x

-- where the master of a site is there
abbrev pub found_site : List SiteState → Option SiteName → Option SiteState
found_site sites None = None
found_site sites (Some name) = site_of name sites

-- a snapshot site gets what its snapshots pick of its master's tables now
abbrev pub refreshed : List SiteState → SiteState → SiteState
refreshed sites x = refreshed_from (found_site sites (master_of x.schema x.here.site)) x

abbrev pub without_found : Option SiteName → List SiteName → List SiteName
without_found None names = names
without_found (Some name) names = without name names

-- the masters at which a pass was begun, without the one of a site that is refreshed
abbrev pub begun_after : SiteName → Option SiteState → List SiteName → List SiteName
begun_after site None names = names
begun_after site (Some x) names = without_found (master_of x.schema site) names

-- ---- events

-- what is there after an event; one that can't happen changes no site, and nothing is sent
abbrev pub happens : Event → Cluster → Cluster
happens (Commit site statements) w = record w { sites = at_site site (site_commit statements) w.sites }
happens (SetClock site clock) w = record w { sites = at_site site (site_clock clock) w.sites }
happens (Send from to position) w = record w { sent = with_packet (packet_from to position (site_of from w.sites)) w.sent }
happens (SendMark from to) w = record w { sent = with_packet (mark_from to (site_of from w.sites)) w.sent }
happens (Deliver which) w = record w { sites = delivered (slice_get w.sent which) w.sites }
happens (Begin site) w = record w { sites = at_site site begun w.sites; begun = site ∷ w.begun }
happens (Apply site origin position) w = record w { sites = applied_where (may_apply site w) site origin position w.sites }
happens (Execute site origin position) w = record w { sites = at_site site (site_execute origin position) w.sites }
happens (Drop site origin position) w = record w { sites = at_site site (site_drop origin position) w.sites }
happens (Purge site) w = record w { sites = at_site site site_purge w.sites }
happens (PurgeLog site table) w = record w { sites = at_site site (site_purge_log table) w.sites; begun = without site w.begun }
happens (Refresh site) w = record w { sites = at_site site (refreshed w.sites) w.sites; begun = begun_after site (site_of site w.sites) w.begun }
happens (Join site source) w = record w { sites = joined site source w.sites }

-- what is there after events, the newest of which stands first
abbrev pub run : List Event → Cluster → Cluster
run [] w = w
run (e ∷ es) w = happens e (run es w)
