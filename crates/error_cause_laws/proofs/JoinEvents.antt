-- Joins among the events: a site that isn't there comes by a join alone, and a join copies the site that it names.
use Rattle.std.proofs.Common.{◌≡◌, Bool, true, false, cond, List, Some, None, refl, ap}
use Rattle.std.specs.Prelude.{Option, option_map, slice_get}
use Rattle.rep_values.specs.declared.name.SiteName.{SiteName}
use Rattle.packet_code.specs.declared.packet.Packet.{Packet}
use Rattle.site_state.specs.State.{SiteState}
use Rattle.site_state.specs.Steps.{begun}
use Rattle.site_state.specs.Commits.{site_commit, site_clock}
use Rattle.site_state.specs.Packets.{site_accept}
use Rattle.site_state.specs.Passes.{site_apply}
use Rattle.site_state.specs.Errors.{site_execute, site_drop}
use Rattle.site_state.specs.Purges.{site_purge, site_purge_log}
use Rattle.site_state.proofs.Stepping.{commit_steps, apply_steps, execute_steps, drop_steps}
use Rattle.site_state.proofs.Changing.{accept_later}
use Rattle.site_events.specs.Cluster.{Cluster, site_of, at_site}
use Rattle.site_events.specs.Joins.{with_joined, may_join, joined_by, joined}
use Rattle.site_events.specs.Events.{Event, Commit, SetClock, Send, SendMark, Deliver, Begin, Apply, Execute, Drop, Purge, PurgeLog, Refresh, Join, happens, delivered, receiver, may_apply, applied_where, refreshed}
use Rattle.event_laws.proofs.Sites.{KeepsHere, at_split}
use Rattle.event_laws.proofs.Happening.{refreshed_is, here-IsRefreshed}
use Rattle.error_cause_laws.specs.LostInserts.{of_source}

-- an event is no join
abbrev pub is_no_join : Event → Bool
is_no_join (Join site source) = false
is_no_join e = true

-- an event is a join or it isn't
pub data Kind (e : Event) : Type 0 where
  Plain : is_no_join e ≡ true → Kind e
  Joining : (site source : SiteName) → e ≡ Join site source → Kind e

pub kind : (e : Event) → Kind e
kind (Join site source) = Joining site source refl
kind (Commit site statements) = Plain refl
kind (SetClock site clock) = Plain refl
kind (Send from to position) = Plain refl
kind (SendMark from to) = Plain refl
kind (Deliver which) = Plain refl
kind (Begin site) = Plain refl
kind (Apply site origin position) = Plain refl
kind (Execute site origin position) = Plain refl
kind (Drop site origin position) = Plain refl
kind (Purge site) = Plain refl
kind (PurgeLog site table) = Plain refl
kind (Refresh site) = Plain refl

-- what a join leaves: the sites as they are, or with one more
pub data JoinLeaves (sites : List SiteState) (site from : SiteName) : List SiteState → Type 0 where
  Nothing : JoinLeaves sites site from sites
  OneMore : (source : SiteState) → site_of site sites ≡ None → site_of from sites ≡ Some source → may_join sites source site ≡ true → JoinLeaves sites site from (with_joined sites source site)

pub join_leaves : (sites : List SiteState) (site from : SiteName) → JoinLeaves sites site from (joined site from sites)
join_leaves sites site from = go (site_of site sites) refl (site_of from sites) refl
  where
    by : (x : SiteState) → site_of site sites ≡ None → site_of from sites ≡ Some x → (b : Bool) → may_join sites x site ≡ b → JoinLeaves sites site from (cond b (with_joined sites x site) sites)
    by x absent found true may = OneMore x absent found may
    by x absent found false may = Nothing

    go : (there : Option SiteState) → site_of site sites ≡ there → (source : Option SiteState) → site_of from sites ≡ source → JoinLeaves sites site from (joined_by sites site there source)
    go (Some y) is source found = Nothing
    go None is None found = Nothing
    go None is (Some x) found = by x is found (may_join sites x site) refl

-- ---- other events

none_at : (name site : SiteName) (change : SiteState → SiteState) (sites : List SiteState) → KeepsHere change → site_of name sites ≡ None → site_of name (at_site site change sites) ≡ None
none_at name site change sites here none = at_split (λ (o : Option SiteState). o ≡ None) site name change sites here (λ same. ap (option_map change) none) none

-- a site that isn't there comes by a join alone
pub still_absent : (e : Event) (w : Cluster) (name : SiteName) → is_no_join e ≡ true → site_of name w.sites ≡ None → site_of name (happens e w).sites ≡ None
still_absent (Commit site statements) w name plain none = none_at name site (site_commit statements) w.sites (λ x. (commit_steps statements x).here) none
still_absent (SetClock site clock) w name plain none = none_at name site (site_clock clock) w.sites (λ x. refl) none
still_absent (Send from to position) w name plain none = none
still_absent (SendMark from to) w name plain none = none
still_absent (Deliver which) w name plain none = go (slice_get w.sent which)
  where
    go : (packet : Option Packet) → site_of name (delivered packet w.sites) ≡ None
    go None = none
    go (Some packet) = none_at name (receiver packet) (site_accept packet) w.sites (λ x. (accept_later packet x).here) none
still_absent (Begin site) w name plain none = none_at name site begun w.sites (λ x. refl) none
still_absent (Apply site origin position) w name plain none = go (may_apply site w)
  where
    go : (b : Bool) → site_of name (applied_where b site origin position w.sites) ≡ None
    go true = none_at name site (site_apply origin position) w.sites (λ x. (apply_steps origin position x).here) none
    go false = none
still_absent (Execute site origin position) w name plain none = none_at name site (site_execute origin position) w.sites (λ x. (execute_steps origin position x).here) none
still_absent (Drop site origin position) w name plain none = none_at name site (site_drop origin position) w.sites (λ x. (drop_steps origin position x).here) none
still_absent (Purge site) w name plain none = none_at name site site_purge w.sites (λ x. refl) none
still_absent (PurgeLog site table) w name plain none = none_at name site (site_purge_log table) w.sites (λ x. refl) none
still_absent (Refresh site) w name plain none = none_at name site (refreshed w.sites) w.sites (λ x. here-IsRefreshed w.sites x (refreshed w.sites x) (refreshed_is w.sites x)) none
still_absent (Join site source) w name plain none = cc

-- an event that is no join copies no site
pub no_source : (site : SiteName) (e : Event) (test : SiteName → Bool) → is_no_join e ≡ true → of_source site e test ≡ false
no_source site (Commit name statements) test plain = refl
no_source site (SetClock name clock) test plain = refl
no_source site (Send from to position) test plain = refl
no_source site (SendMark from to) test plain = refl
no_source site (Deliver which) test plain = refl
no_source site (Begin name) test plain = refl
no_source site (Apply name origin position) test plain = refl
no_source site (Execute name origin position) test plain = refl
no_source site (Drop name origin position) test plain = refl
no_source site (Purge name) test plain = refl
no_source site (PurgeLog name table) test plain = refl
no_source site (Refresh name) test plain = refl
no_source site (Join name source) test plain = cc
