-- A refresh that isn't refused: the site can be refreshed from its master, and is what the world's refresh makes of it.
use Rattle.std.proofs.Common.{◌≡◌, ◌≢◌, ℕ, List, length, Bool, false, Some, None, refl, sym, ap, subst, ◌∙◌}
use Rattle.std.specs.Prelude.{◌||◌, not, slice_get, slice_set}
use Rattle.std.proofs.lemmas.List.{length-set}
use Rattle.rep_values.specs.declared.name.SiteName.{SiteName}
use Rattle.rep_values.specs.declared.refusal.Refusal.TheVariants as refusal
use Rattle.rep_values.specs.RefusalSteps.{refused, or_then, first_refusal}
use Rattle.rep_values.proofs.RefusalSteps.{or_then-None}
use Rattle.rep_schema.specs.declared.schema.Schema.{Schema}
use Rattle.script_parse.specs.declared.command.Refresh.{Refresh}
use Rattle.script_parse.specs.declared.command.Command.TheVariants as command
use Rattle.site_state.specs.State.{SiteState}
use Rattle.site_events.specs.Cluster.{site_of, at_site}
use Rattle.site_events.specs.Events.{is_all_acked, master_of, found_site, refreshed}
use Rattle.event_laws.proofs.Sites.{found_name}
use Rattle.world_state.specs.declared.phase.Phase.{Phase}
use Rattle.world_state.specs.declared.phase.Phase.TheVariants as phase
use Rattle.world_state.specs.World.{WorldState}
use Rattle.world_state.specs.Phases.{is_setup, has_block, behind_setup_step}
use Rattle.world_state.specs.Refusals.{waiting_count, log_step, refresh_steps}
use Rattle.world_state.specs.Answers.{refresh_answer}
use Rattle.world_state.specs.Steps.{world_refresh}
use Rattle.world_laws.proofs.Calling.{slice_set-place}
use Rattle.world_laws.proofs.UnrefusedLines.{refreshed-made}
use Rattle.world_laws.specs.Places.{site_place}
use Rattle.world_laws.specs.Sites.{CanRefreshFrom, SnapshotsHold}
use Rattle.world_laws.proofs.SnapshotScripts.{snapshots_hold_of}
use Rattle.world_laws.proofs.AlikeWorlds.{of_snapshots}
use Rattle.world.specs.Following.{IsBuilt}
use Rattle.world.specs.Finding.{IsAt}
use Rattle.world.specs.Precheck.{precheck_refusal}
use Rattle.world.proofs.Masters.{served_by}
use Rattle.world_commands.specs.Refreshing.{CanRefreshAt, refreshed_by, refreshed_at, refresh_told_at}
use Rattle.world_commands.proofs.RefreshedSites.{refreshed_at-is, told_at-is}

behind_of : (p : Phase) (b : Bool) → refused (is_setup p || b) refusal.WrongPhase ≡ None → is_setup p ≡ false
behind_of phase.Setup b none = absurd (cc none)
behind_of phase.Running b none = refl
behind_of phase.Suspended b none = refl

module _ (w : WorldState) (built : IsBuilt w) (site : SiteName) (how : Refresh) (passes : precheck_refusal (command.Refresh site how) w ≡ None)
    (x m : SiteState) (at_x : site_of site w.sites ≡ Some x) (at_m : found_site w.sites (master_of w.schema site) ≡ Some m) where
  behind : is_setup w.phase ≡ false
  behind = behind_of w.phase (has_block w) (or_then-None (behind_setup_step w) _ passes).0

  steps : first_refusal (refresh_steps how x m w) ≡ None
  steps = rw (at_x, at_m) at (or_then-None (behind_setup_step w) _ passes).1

  behind_link : (refused (not (is_all_acked x)) (refusal.QueueNotEmpty (waiting_count x)) ≡ None) × (or_then (log_step how m.logs x.snapshots) None ≡ None)
  behind_link = or_then-None _ _ (or_then-None _ _ steps).1

  reaches : log_step how m.logs x.snapshots ≡ None
  reaches = (or_then-None (log_step how m.logs x.snapshots) None behind_link.1).0

  hold : SnapshotsHold w
  hold = snapshots_hold_of w (of_snapshots w built.of_convergence)

  can : CanRefreshFrom m x
  can = hold.refreshes site x m at_x at_m

  -- what the world's refresh makes of the site
  refreshed_is : refreshed w.sites x ≡ refreshed_by m x
  refreshed_is = refreshed-made w.sites x m
      (ap (λ (s : Schema). found_site w.sites (master_of s x.here.site)) (hold.schemas site x at_x) ∙ ap (λ (n : SiteName). found_site w.sites (master_of w.schema n)) (found_name site w.sites x at_x) ∙ at_m)
      can.no_master

  module _ (place there : ℕ) (at_place : slice_get w.sites place ≡ Some x) (at_there : slice_get w.sites there ≡ Some m) where
    two_places : place ≢ there
    two_places same =
        let one : x ≡ m = cc (at_place, at_there, same) in
        (served_by w built behind site x m at_x at_m).another (ap (λ (y : SiteState). y.here.site) one)

    -- the site can be refreshed at its place
    pub can_refresh_at : CanRefreshAt how w.sites place there
    can_refresh_at = record { here = x; there = m; at_place = at_place; at_master = at_there; apart = two_places; can = can; reaches = reaches }

    -- and that is the world's refresh
    pub sites_refreshed : place ≡ site_place site w.sites → refreshed_at w.sites place there ≡ at_site site (refreshed w.sites) w.sites
    unfolding can_refresh_at
    sites_refreshed is =
        let here : slice_get w.sites (site_place site w.sites) ≡ Some x = subst (λ (k : ℕ). slice_get w.sites k ≡ Some x) is at_place in
        refreshed_at-is how w.sites place there can_refresh_at ∙ ap (slice_set w.sites place) (sym refreshed_is) ∙ ap (λ (k : ℕ). slice_set w.sites k (refreshed w.sites x)) is
        ∙ slice_set-place site (refreshed w.sites) w.sites x here

    -- which tells what is told there
    pub told_there : refresh_answer site how w ≡ refresh_told_at how w.sites place there
    unfolding can_refresh_at
    told_there = rw (at_x, at_m) (sym (told_at-is how w.sites place there can_refresh_at))

-- ---- what was read of a world

-- a site and its master were found at their places, in sites that are the world's
module _ (w : WorldState) (built : IsBuilt w) (site : SiteName) (how : Refresh) (passes : precheck_refusal (command.Refresh site how) w ≡ None) (seen : WorldState) (schema : Schema) (xs ys : List SiteState)
    (master : SiteName) (place there : ℕ) (world_is : seen ≡ w) (schema_is : schema ≡ seen.schema) (named : Some master ≡ master_of schema site)
    (xs_are : xs ≡ seen.sites) (at : IsAt site xs place) (ys_are : ys ≡ seen.sites) (its : IsAt master ys there) where
  here : IsAt site w.sites place
  here = subst (λ (sites : List SiteState). IsAt site sites place) (xs_are ∙ ap (λ (v : WorldState). v.sites) world_is) at

  served : IsAt master w.sites there
  served = subst (λ (sites : List SiteState). IsAt master sites there) (ys_are ∙ ap (λ (v : WorldState). v.sites) world_is) its

  at_master : found_site w.sites (master_of w.schema site) ≡ Some served.site
  at_master = ap (λ (s : Schema). found_site w.sites (master_of s site)) (sym (schema_is ∙ ap (λ (v : WorldState). v.schema) world_is)) ∙ ap (found_site w.sites) (sym named) ∙ served.found

  pub can_refresh_there : (sites : List SiteState) → sites ≡ seen.sites → CanRefreshAt how sites place there
  can_refresh_there sites are = subst (λ (zs : List SiteState). CanRefreshAt how zs place there) (sym (are ∙ ap (λ (v : WorldState). v.sites) world_is))
      (can_refresh_at w built site how passes here.site served.site here.found at_master place there here.there served.there)

  pub world_refreshed : (sites new : List SiteState) → sites ≡ seen.sites → new ≡ refreshed_at sites place there → record seen { sites = new } ≡ world_refresh site w
  world_refreshed sites new are is =
      let all = is ∙ ap (λ (zs : List SiteState). refreshed_at zs place there) (are ∙ ap (λ (v : WorldState). v.sites) world_is)
      ∙ sites_refreshed w built site how passes here.site served.site here.found at_master place there here.there served.there here.is in
      ap (λ (zs : List SiteState). record seen { sites = zs }) all ∙ ap (λ (v : WorldState). record v { sites = at_site site (refreshed w.sites) w.sites }) world_is

  pub told_refreshed : (sites : List SiteState) → sites ≡ seen.sites → refresh_answer site how w ≡ refresh_told_at how sites place there
  told_refreshed sites are = told_there w built site how passes here.site served.site here.found at_master place there here.there served.there
      ∙ ap (λ (zs : List SiteState). refresh_told_at how zs place there) (sym (are ∙ ap (λ (v : WorldState). v.sites) world_is))

  -- no site more and none less
  pub as_many_sites : (sites new : List SiteState) → sites ≡ seen.sites → new ≡ refreshed_at sites place there → length new ≡ length sites
  as_many_sites sites new are is = let can = can_refresh_there sites are in
      ap length (is ∙ refreshed_at-is how sites place there can) ∙ length-set sites place (refreshed_by can.there can.here)
