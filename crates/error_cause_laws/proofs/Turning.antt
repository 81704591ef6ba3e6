-- What an event does to the sites: nothing; one of them moves; or a late master joins.
use Rattle.std.proofs.Common.{◌≡◌, ◌≢◌, Bool, true, false, cond, List, [], ◌∷◌, Some, None, refl, sym, ap, ◌∙◌}
use Rattle.std.specs.Prelude.{Option, slice_get}
use Rattle.std.specs.Option.{option_map}
use Rattle.rep_values.specs.declared.name.SiteName.{SiteName}
use Rattle.txn_effects.specs.declared.local.Here.{Here}
use Rattle.local_txn.specs.Laws.{StampsOfABlockRise}
use Rattle.rep_values.specs.SiteNames.{is_same_site}
use Rattle.deferred_queue.proofs.Sites.{is_same_site-true}
use Rattle.packet_code.specs.declared.packet.Packet.{Packet}
use Rattle.rep_laws.specs.Commuting.{IsSound}
use Rattle.site_state.specs.State.{SiteState}
use Rattle.site_events.specs.Cluster.{Cluster, site_of, at_site}
use Rattle.site_events.specs.Joins.{may_join, with_joined, joined_by, joined}
use Rattle.site_events.specs.Events.{Event, Commit, SetClock, Send, SendMark, Deliver, Begin, Apply, Execute, Drop, Purge, PurgeLog, Refresh, Join, receiver, delivered, may_apply, applied_where, refreshed, happens}
use Rattle.site_state.specs.Commits.{site_commit, site_clock}
use Rattle.site_state.specs.Steps.{begun}
use Rattle.site_state.specs.Packets.{site_accept}
use Rattle.site_state.specs.Passes.{site_apply}
use Rattle.site_state.specs.Errors.{site_execute, site_drop}
use Rattle.site_state.specs.Purges.{site_purge, site_purge_log}
use Rattle.site_state.proofs.Stepping.{commit_steps, apply_steps, execute_steps, drop_steps}
use Rattle.event_laws.specs.Fitting.{FitsHere}
use Rattle.event_laws.specs.Orders.{IsInOrder}
use Rattle.event_laws.proofs.Sites.{KeepsHere, found_name, found_again}
use Rattle.event_laws.proofs.Happening.{refreshed_is}
use Rattle.event_laws.proofs.RunInvariants.{SendersHold}
use Rattle.error_cause_laws.proofs.Moving.{Moves, clock_moves, begun_moves, purge_moves, purge_log_moves, accept_moves, refresh_moves, drop_moves, commit_moves, apply_moves, execute_moves}

pub data Turns (sites : List SiteState) (others : List SiteState) : Type 0 where
  Same : others ≡ sites → Turns sites others
  One : (x y : SiteState) → site_of x.here.site sites ≡ Some x → site_of x.here.site others ≡ Some y → ((site : SiteName) → site ≢ x.here.site → site_of site others ≡ site_of site sites) → Moves sites x y → Turns sites others
  Joins : (site : SiteName) (source : SiteState) → site_of site sites ≡ None → site_of source.here.site sites ≡ Some source → may_join sites source site ≡ true → others ≡ with_joined sites source site → Turns sites others

-- ---- the site of a name, where one changed

same_test : (change : SiteState → SiteState) → KeepsHere change → (x : SiteState) (name : SiteName) → is_same_site (change x).here.site name ≡ is_same_site x.here.site name
same_test change keeps x name = ap (λ (h : Here). is_same_site h.site name) (keeps x)

at_own : (name : SiteName) (change : SiteState → SiteState) (xs : List SiteState) → KeepsHere change → site_of name (at_site name change xs) ≡ option_map change (site_of name xs)
at_own name change [] keeps = refl
at_own name change (x ∷ xs) keeps = go (is_same_site x.here.site name) refl (at_own name change xs keeps)
  where
    go : (b : Bool) → is_same_site x.here.site name ≡ b → site_of name (at_site name change xs) ≡ option_map change (site_of name xs)
        → site_of name (cond b (change x ∷ xs) (x ∷ at_site name change xs)) ≡ option_map change (cond b (Some x) (site_of name xs))
    go true is later = rw (same_test change keeps x name, is) refl
    go false is later = rw is later

at_other : (name other : SiteName) (change : SiteState → SiteState) (xs : List SiteState) → KeepsHere change → other ≢ name → site_of other (at_site name change xs) ≡ site_of other xs
at_other name other change [] keeps apart = refl
at_other name other change (x ∷ xs) keeps apart = go (is_same_site x.here.site name) refl (is_same_site x.here.site other) refl (at_other name other change xs keeps apart)
  where
    go : (b : Bool) → is_same_site x.here.site name ≡ b → (c : Bool) → is_same_site x.here.site other ≡ c → site_of other (at_site name change xs) ≡ site_of other xs
        → site_of other (cond b (change x ∷ xs) (x ∷ at_site name change xs)) ≡ cond (is_same_site x.here.site other) (Some x) (site_of other xs)
    go true is true also later = absurd (apart (sym (is_same_site-true x.here.site other also) ∙ is_same_site-true x.here.site name is))
    go true is false also later = rw (same_test change keeps x other, also) refl
    go false is c also later = ap (λ o. cond (is_same_site x.here.site other) (Some x) o) later

at_none : (name : SiteName) (change : SiteState → SiteState) (xs : List SiteState) → site_of name xs ≡ None → at_site name change xs ≡ xs
at_none name change [] none = refl
at_none name change (x ∷ xs) none = go (is_same_site x.here.site name) none (at_none name change xs)
  where
    go : (b : Bool) → cond b (Some x) (site_of name xs) ≡ None → (site_of name xs ≡ None → at_site name change xs ≡ xs) → cond b (change x ∷ xs) (x ∷ at_site name change xs) ≡ x ∷ xs
    go true e later = cc
    go false e later = ap (λ ys. x ∷ ys) (later e)

at_turns : (sites : List SiteState) (name : SiteName) (change : SiteState → SiteState) → ((x : SiteState) → site_of name sites ≡ Some x → site_of x.here.site sites ≡ Some x → Moves sites x (change x)) → KeepsHere change
    → Turns sites (at_site name change sites)
at_turns sites name change moves keeps = go (site_of name sites) refl
  where
    other_same : (site : SiteName) → site ≢ name → site_of site (at_site name change sites) ≡ site_of site sites
    other_same site apart = at_other name site change sites keeps apart

    go : (o : Option SiteState) → site_of name sites ≡ o → Turns sites (at_site name change sites)
    go None none = Same (at_none name change sites none)
    go (Some x) found =
        let named : x.here.site ≡ name = found_name name sites x found in
        One x (change x) (found_again name sites x found)
        (ap (λ (n : SiteName). site_of n (at_site name change sites)) named ∙ at_own name change sites keeps ∙ ap (option_map change) found)
        (λ site apart. other_same site (λ same. apart (same ∙ sym named)))
        (moves x found (found_again name sites x found))

-- ---- every event

-- what is needed of the sites
pub record AreHeld (sites : List SiteState) : Type 0 where
  pub sound : (site : SiteName) (x : SiteState) → site_of site sites ≡ Some x → IsSound x.schema
  pub fit : (site : SiteName) (x : SiteState) → site_of site sites ≡ Some x → FitsHere x
  pub senders : (site : SiteName) (x : SiteState) → site_of site sites ≡ Some x → SendersHold sites x.here.site x.senders
  pub order : (site : SiteName) (x : SiteState) → site_of site sites ≡ Some x → IsInOrder sites x.here.site x.journal

same_turns : (sites : List SiteState) → Turns sites sites
same_turns sites = Same refl

delivered_turns : (sites : List SiteState) (packet : Option Packet) → Turns sites (delivered packet sites)
delivered_turns sites None = same_turns sites
delivered_turns sites (Some packet) = at_turns sites (receiver packet) (site_accept packet) (λ x is again. accept_moves sites packet x) (λ x. (accept_moves sites packet x).here)

joined_turns : (sites : List SiteState) (site from : SiteName) → Turns sites (joined site from sites)
joined_turns sites site from = go (site_of site sites) refl (site_of from sites) refl
  where
    by : (x : SiteState) → site_of site sites ≡ None → site_of x.here.site sites ≡ Some x → (b : Bool) → may_join sites x site ≡ b → Turns sites (cond b (with_joined sites x site) sites)
    by x absent found true may = Joins site x absent found may refl
    by x absent found false may = same_turns sites

    go : (there : Option SiteState) → site_of site sites ≡ there → (source : Option SiteState) → site_of from sites ≡ source → Turns sites (joined_by sites site there source)
    go (Some y) is source found = same_turns sites
    go None is None found = same_turns sites
    go None is (Some x) found = by x is (found_again from sites x found) (may_join sites x site) refl

pub happens_turns : StampsOfABlockRise → (e : Event) (w : Cluster) → AreHeld w.sites → Turns w.sites (happens e w).sites
happens_turns rises (Commit site statements) w h = at_turns w.sites site (site_commit statements) (λ x is again. commit_moves rises w.sites statements x (h.sound site x is) (h.fit site x is)) (λ x. (commit_steps statements x).here)
happens_turns rises (SetClock site clock) w h = at_turns w.sites site (site_clock clock) (λ x is again. clock_moves w.sites clock x) (λ x. refl)
happens_turns rises (Send from to position) w h = same_turns w.sites
happens_turns rises (SendMark from to) w h = same_turns w.sites
happens_turns rises (Deliver which) w h = delivered_turns w.sites (slice_get w.sent which)
happens_turns rises (Begin site) w h = at_turns w.sites site begun (λ x is again. begun_moves w.sites x) (λ x. refl)
happens_turns rises (Apply site origin position) w h = go (may_apply site w)
  where
    go : (b : Bool) → Turns w.sites (applied_where b site origin position w.sites)
    go true = at_turns w.sites site (site_apply origin position) (λ x is again. apply_moves w.sites x (h.senders site x is) origin position) (λ x. (apply_steps origin position x).here)
    go false = same_turns w.sites
happens_turns rises (Execute site origin position) w h = at_turns w.sites site (site_execute origin position) (λ x is again. execute_moves w.sites x (h.order site x is) origin position) (λ x. (execute_steps origin position x).here)
happens_turns rises (Drop site origin position) w h = at_turns w.sites site (site_drop origin position) (λ x is again. drop_moves w.sites origin position x) (λ x. (drop_steps origin position x).here)
happens_turns rises (Purge site) w h = at_turns w.sites site site_purge (λ x is again. purge_moves w.sites x) (λ x. refl)
happens_turns rises (PurgeLog site table) w h = at_turns w.sites site (site_purge_log table) (λ x is again. purge_log_moves w.sites table x) (λ x. refl)
happens_turns rises (Refresh site) w h = at_turns w.sites site (refreshed w.sites) (λ x is again. refresh_moves w.sites x (refreshed w.sites x) (refreshed_is w.sites x)) (λ x. (refresh_moves w.sites x (refreshed w.sites x) (refreshed_is w.sites x)).here)
happens_turns rises (Join site from) w h = joined_turns w.sites site from
