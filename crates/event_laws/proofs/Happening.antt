-- What an event does to the sites and to what was sent, in a few kinds.
use Rattle.std.proofs.Common.{◌≡◌, ℕ, List, [], ◌∷◌, Bool, true, false, cond, Some, None, refl}
use Rattle.std.specs.Prelude.{not, Option, slice_get}
use Rattle.std.proofs.lemmas.Bool.{not-true}
use Rattle.rep_values.specs.declared.name.SiteName.{SiteName}
use Rattle.packet_code.specs.declared.packet.Packet.{Packet}
use Rattle.site_state.specs.State.{SiteState}
use Rattle.site_state.specs.Contents.{tables_of}
use Rattle.site_state.specs.Packets.{site_accept}
use Rattle.site_state.specs.Purges.{site_purge}
use Rattle.site_state.specs.Refreshes.{site_refresh}
use Rattle.site_events.specs.Rules.{rows_ruled}
use Rattle.site_state.proofs.Stepping.{Steps, clock_steps, begun_steps, purge_log_steps, commit_steps, apply_steps, execute_steps, drop_steps}
use Rattle.site_events.specs.Cluster.{Cluster, site_of, at_site}
use Rattle.site_events.specs.Joins.{may_join, with_joined, joined_by, joined}
use Rattle.site_events.specs.Events.{Event, Commit, SetClock, Send, SendMark, Deliver, Begin, Apply, Execute, Drop, Purge, PurgeLog, Refresh, Join, with_packet, packet_from, mark_from, receiver, delivered, may_apply, applied_where, master_of, refreshed_from, found_site, refreshed, happens, run}

-- a site that is no master, as a refresh leaves it
pub data IsRefreshed (sites : List SiteState) (x : SiteState) : SiteState → Type 0 where
  Not : IsRefreshed sites x x
  From : (master : SiteState) → found_site sites (master_of x.schema x.here.site) ≡ Some master → x.here.is_master ≡ false
      → IsRefreshed sites x (site_refresh (rows_ruled x.schema (tables_of master) x.snapshots) master.moment x)

-- what is declared of it stays
pub here-IsRefreshed : (sites : List SiteState) (x y : SiteState) → IsRefreshed sites x y → y.here ≡ x.here
here-IsRefreshed sites x _ Not = refl
here-IsRefreshed sites x _ (From master found plain) = refl

-- what becomes of the sites and of what was sent
pub data Becomes (sites : List SiteState) (sent : List Packet) : List SiteState → List Packet → Type 0 where
  Stays : Becomes sites sent sites sent
  Journalled : (name : SiteName) (change : SiteState → SiteState) → ((x : SiteState) → Steps x (change x)) → Becomes sites sent (at_site name change sites) sent
  Sends : (from to : SiteName) (position : ℕ) → Becomes sites sent sites (with_packet (packet_from to position (site_of from sites)) sent)
  Marks : (from to : SiteName) → Becomes sites sent sites (with_packet (mark_from to (site_of from sites)) sent)
  Delivers : (packet : Packet) (which : ℕ) → slice_get sent which ≡ Some packet → Becomes sites sent (at_site (receiver packet) (site_accept packet) sites) sent
  Purges : (name : SiteName) → Becomes sites sent (at_site name site_purge sites) sent
  Refreshes : (name : SiteName) (change : SiteState → SiteState) → ((x : SiteState) → IsRefreshed sites x (change x)) → Becomes sites sent (at_site name change sites) sent
  Joins : (site from : SiteName) (source : SiteState) → site_of site sites ≡ None → site_of from sites ≡ Some source → may_join sites source site ≡ true
      → Becomes sites sent (with_joined sites source site) sent

-- a refresh leaves such a site
pub refreshed_is : (sites : List SiteState) (x : SiteState) → IsRefreshed sites x (refreshed sites x)
refreshed_is sites x = go (found_site sites (master_of x.schema x.here.site)) refl
  where
    by : (master : SiteState) → found_site sites (master_of x.schema x.here.site) ≡ Some master → (b : Bool) → not x.here.is_master ≡ b
        → IsRefreshed sites x (cond b (site_refresh (rows_ruled x.schema (tables_of master) x.snapshots) master.moment x) x)
    by master found true is = From master found (not-true x.here.is_master is)
    by master found false is = Not

    go : (o : Option SiteState) → found_site sites (master_of x.schema x.here.site) ≡ o → IsRefreshed sites x (refreshed_from o x)
    go None found = Not
    go (Some master) found = by master found (not x.here.is_master) refl

delivered_becomes : (sites : List SiteState) (sent : List Packet) (which : ℕ) → Becomes sites sent (delivered (slice_get sent which) sites) sent
delivered_becomes sites sent which = go (slice_get sent which) refl
  where
    go : (packet : Option Packet) → slice_get sent which ≡ packet → Becomes sites sent (delivered packet sites) sent
    go None is = Stays
    go (Some packet) is = Delivers packet which is

applied_becomes : (sites : List SiteState) (sent : List Packet) (site origin : SiteName) (position : ℕ) (b : Bool) → Becomes sites sent (applied_where b site origin position sites) sent
applied_becomes sites sent site origin position true = Journalled site _ (apply_steps origin position)
applied_becomes sites sent site origin position false = Stays

joined_becomes : (sites : List SiteState) (sent : List Packet) (site source : SiteName) → Becomes sites sent (joined site source sites) sent
joined_becomes sites sent site source = go (site_of site sites) refl (site_of source sites) refl
  where
    by : (x : SiteState) → site_of site sites ≡ None → site_of source sites ≡ Some x → (b : Bool) → may_join sites x site ≡ b → Becomes sites sent (cond b (with_joined sites x site) sites) sent
    by x absent found true may = Joins site source x absent found may
    by x absent found false may = Stays

    go : (there : Option SiteState) → site_of site sites ≡ there → (from : Option SiteState) → site_of source sites ≡ from → Becomes sites sent (joined_by sites site there from) sent
    go (Some y) is from found = Stays
    go None is None found = Stays
    go None is (Some x) found = by x is found (may_join sites x site) refl

-- every event is of one of these kinds
pub happens_becomes : (e : Event) (w : Cluster) → Becomes w.sites w.sent (happens e w).sites (happens e w).sent
happens_becomes (Commit site statements) w = Journalled site _ (commit_steps statements)
happens_becomes (SetClock site clock) w = Journalled site _ (clock_steps clock)
happens_becomes (Send from to position) w = Sends from to position
happens_becomes (SendMark from to) w = Marks from to
happens_becomes (Deliver which) w = delivered_becomes w.sites w.sent which
happens_becomes (Begin site) w = Journalled site _ begun_steps
happens_becomes (Apply site origin position) w = applied_becomes w.sites w.sent site origin position (may_apply site w)
happens_becomes (Execute site origin position) w = Journalled site _ (execute_steps origin position)
happens_becomes (Drop site origin position) w = Journalled site _ (drop_steps origin position)
happens_becomes (Purge site) w = Purges site
happens_becomes (PurgeLog site table) w = Journalled site _ (purge_log_steps table)
happens_becomes (Refresh site) w = Refreshes site _ (refreshed_is w.sites)
happens_becomes (Join site source) w = joined_becomes w.sites w.sent site source

-- what each kind keeps holds after every list of events
pub run_keeps : (P : List SiteState → List Packet → Type 0)
    → ((xs : List SiteState) (sent : List Packet) (ys : List SiteState) (more : List Packet) → Becomes xs sent ys more → P xs sent → P ys more)
    → (es : List Event) (w : Cluster) → P w.sites w.sent → P (run es w).sites (run es w).sent
run_keeps P keeps [] w is = is
run_keeps P keeps (e ∷ es) w is = keeps _ _ _ _ (happens_becomes e (run es w)) (run_keeps P keeps es w is)
