-- The keys that a site has changed since the last refresh of a snapshot rise, whatever happens.
use Rattle.std.proofs.Common.{◌≡◌, List, [], ◌∷◌, Bool, true, false, cond, Some, None, refl, sym, ap, ◌∙◌, inl, inr, subst}
use Rattle.std.specs.Prelude.{Option, option_map}
use Rattle.std.specs.List.{AllByRecursion}
use Rattle.rep_lists.specs.Rising.{IsRising}
use Rattle.rep_values.specs.declared.name.SiteName.{SiteName}
use Rattle.rep_values.specs.Order.{key_cmp}
use Rattle.rep_schema.specs.declared.schema.Schema.{Schema}
use Rattle.rep_values.specs.SiteNames.{is_same_site}
use Rattle.deferred_queue.proofs.Sites.{is_same_site-true}
use Rattle.snapshot_query.specs.declared.snapshot.Snapshot.{Snapshot}
use Rattle.site_state.specs.State.{SiteState}
use Rattle.rep_schema.specs.Sites.{is_among}
use Rattle.change_logs.specs.Noting.{keys_changed, touched_in, log_of, keys_in, logged_above, renewed}
use Rattle.site_state.specs.Steps.{begun}
use Rattle.site_state.specs.Purges.{site_purge_log}
use Rattle.site_state.specs.Joining.{site_open}
use Rattle.change_logs.proofs.RisingKeys.{rising-with_keys}
use Rattle.site_events.specs.Cluster.{Cluster, site_of, at_site}
use Rattle.site_events.specs.Joins.{copied, with_joined}
use Rattle.site_events.specs.Events.{refreshed, run}
use Rattle.event_laws.proofs.Sites.{KeepsHere, found_all, found_or, site_of-joined}
use Rattle.event_laws.proofs.Happening.{IsRefreshed, refreshed_is}
use Rattle.event_laws.proofs.Happening as happening
use Rattle.event_laws.specs.SnapshotStarts.{master_at, StartsFrom, StartsWithSnapshots, IsSnapshotStart}
use Rattle.event_laws.specs.RefreshLaws.{KeysRise, SnapshotKeysRise}
use Rattle.event_laws.proofs.Moves.{all_map, all_weaker, Moves}
use Rattle.event_laws.proofs.SitesKeepUp.{site_of-at_site}
use Rattle.event_laws.proofs.Refreshing.{refreshed_here}
use Rattle.event_laws.proofs.Joining.{snapshots-copied}
use Rattle.event_laws.proofs.RunsFit.{SitesFit}
use Rattle.event_laws.proofs.SnapshotEvents.{Becomes, run_becomes}
use Rattle.event_laws.proofs.SnapshotEvents as events

-- ---- what holds of a site

abbrev TouchedRises : Snapshot → Type 0
TouchedRises s = IsRising key_cmp s.touched

abbrev AllTouchedRise : List Snapshot → Type 0
AllTouchedRise ss = AllByRecursion TouchedRises ss

abbrev TouchedRiseAt : Option SiteState → Type 0
TouchedRiseAt None = Unit {0}
TouchedRiseAt (Some x) = AllTouchedRise x.snapshots

abbrev TouchedRiseIn : List SiteState → Type 0
TouchedRiseIn sites = (site : SiteName) → TouchedRiseAt (site_of site sites)

-- ---- one site changes

touched_changed : (sites : List SiteState) (name : SiteName) (change : SiteState → SiteState) → KeepsHere change
    → ((x : SiteState) → site_of name sites ≡ Some x → AllTouchedRise x.snapshots → AllTouchedRise (change x).snapshots) → TouchedRiseIn sites → TouchedRiseIn (at_site name change sites)
touched_changed sites name change here own all site = rw (site_of-at_site name site change sites here) (go (is_same_site name site) refl (site_of site sites) refl (all site))
  where
    go : (b : Bool) → is_same_site name site ≡ b → (o : Option SiteState) → site_of site sites ≡ o → TouchedRiseAt o → TouchedRiseAt (cond b (option_map change o) o)
    go true is None there held = tt
    go false is None there held = tt
    go true is (Some x) there held = own x (ap (λ (n : SiteName). site_of n sites) (is_same_site-true name site is) ∙ there) held
    go false is (Some x) there held = held

-- a call leaves the keys, or more come among them
touched_move : (schema : Schema) (b : Bool) (x y : SiteState) → Moves schema b x y → AllTouchedRise x.snapshots → AllTouchedRise y.snapshots
touched_move schema b x y (inl q) rise = subst AllTouchedRise (sym q.snapshots) rise
touched_move schema b x y (inr c) rise = subst AllTouchedRise (sym c.snapshots)
    (all_map TouchedRises TouchedRises (touched_in schema c.changes) x.snapshots (λ s one. rising-with_keys (keys_changed schema s.table c.changes) s.touched one) rise)

-- a refresh leaves none
touched_refreshed : (sites : List SiteState) (x y : SiteState) → IsRefreshed sites x y → AllTouchedRise x.snapshots → AllTouchedRise y.snapshots
touched_refreshed sites x _ happening.Not rise = rise
touched_refreshed sites x _ (happening.From master found isnt) rise = all_map TouchedRises TouchedRises (renewed master.moment) x.snapshots (λ s one. tt) rise

-- one that joins has no snapshots
touched_joined : (sites : List SiteState) (site : SiteName) (source : SiteState) → TouchedRiseIn sites → TouchedRiseIn (with_joined sites source site)
touched_joined sites site source all name = rw (site_of-joined name (site_open site) sites (copied sites source site) (λ y. refl)) (go (site_of name sites) (all name))
  where
    fresh : (b : Bool) → TouchedRiseAt (cond b (Some (copied sites source site)) None)
    fresh true = subst AllTouchedRise (sym (snapshots-copied sites source site)) tt
    fresh false = tt

    go : (o : Option SiteState) → TouchedRiseAt o → TouchedRiseAt (found_or (site_of name (copied sites source site ∷ [])) (option_map (site_open site) o))
    go None held = fresh (is_same_site (copied sites source site).here.site name)
    go (Some y) held = held

-- ---- every event

becomes_touched : (schema : Schema) (xs : List SiteState) (names : List SiteName) (ys : List SiteState) (later : List SiteName) → SitesFit schema xs → Becomes schema xs names ys later → TouchedRiseIn xs → TouchedRiseIn ys
becomes_touched schema xs names _ _ fit events.Stays all = all
becomes_touched schema xs names _ _ fit (events.Calls name change here moves) all = touched_changed xs name change here (λ x there. touched_move schema (is_among names name) x (change x) (moves x there)) all
becomes_touched schema xs names _ _ fit (events.Begins name) all = touched_changed xs name begun (λ x. refl) (λ x there rise. rise) all
becomes_touched schema xs names _ _ fit (events.PurgesLog name table) all = touched_changed xs name (site_purge_log table) (λ x. refl) (λ x there rise. rise) all
becomes_touched schema xs names _ _ fit (events.Refreshes name) all = touched_changed xs name (refreshed xs) (refreshed_here xs) (λ x there. touched_refreshed xs x (refreshed xs x) (refreshed_is xs x)) all
becomes_touched schema xs names _ _ fit (events.Joins site source) all = touched_joined xs site source all

-- ---- from the start

starts_touched : (schema : Schema) (start : Cluster) → IsSnapshotStart schema start → TouchedRiseIn start.sites
starts_touched schema start is site = go (site_of site start.sites) refl
  where
    shown : (o : Option SiteState) (x : SiteState) (s : Snapshot) → StartsFrom o x s → TouchedRises s
    shown None x s starts = absurd starts
    shown (Some m) x s starts = starts.touched

    go : (o : Option SiteState) → site_of site start.sites ≡ o → TouchedRiseAt o
    go None there = tt
    go (Some x) there = all_weaker (StartsFrom (master_at start.sites x) x) TouchedRises x.snapshots (shown (master_at start.sites x) x)
        (found_all (StartsWithSnapshots start.sites) site start.sites x is.sites there).shown

pub snapshot_keys_rise : SnapshotKeysRise
snapshot_keys_rise schema start es is site x there =
    all_weaker TouchedRises KeysRise x.snapshots
    (λ s rise. record { touched = rise; pending = λ logs. rising-with_keys (logged_above s.mark (keys_in (log_of s.table logs))) s.touched rise })
    (subst TouchedRiseAt there (held site))
  where
    held : TouchedRiseIn (run es start).sites
    held = run_becomes schema (λ xs names. TouchedRiseIn xs) (becomes_touched schema) start is.fit es (starts_touched schema start is)
