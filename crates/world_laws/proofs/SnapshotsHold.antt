-- What holds of the sites of a world that goes on from where the laws of snapshots begin, and of a refresh there.
use Rattle.std.proofs.Common.{◌≡◌, ℕ, ◌<◌, List, [], ◌∷◌, length, map, false, Some, None, refl, sym, ap, ◌∙◌, subst}
use Rattle.std.specs.Prelude.{Option, nat_lt}
use Rattle.std.specs.List.{AllByRecursion}
use Rattle.rep_values.specs.declared.name.SiteName.{SiteName}
use Rattle.rep_values.specs.declared.refusal.Refusal.{Refusal}
use Rattle.rep_values.specs.declared.refusal.Refusal.TheVariants as refusal
use Rattle.rep_values.specs.RefusalSteps.{refused, or_then, first_refusal, known}
use Rattle.rep_values.proofs.RefusalSteps.{or_then-None, refused-None}
use Rattle.rep_schema.specs.declared.schema.Schema.{Schema}
use Rattle.rep_schema.specs.Shape.{HasShape}
use Rattle.rep_schema.specs.Tables.{rows_of, IsTable, AreTables}
use Rattle.rep_schema.proofs.FilteredRows.{IsTable-filter}
use Rattle.snapshot_query.specs.declared.parent.Parent.{Parent}
use Rattle.snapshot_query.specs.declared.snapshot.Snapshot.{Snapshot}
use Rattle.snapshot_query.specs.Parents.{picks}
use Rattle.site_state.specs.declared.rows.TableRows.{TableRows}
use Rattle.site_state.specs.State.{SiteState}
use Rattle.change_logs.specs.LogState.{LogState}
use Rattle.rep_schema.specs.Sites.{is_master_site}
use Rattle.site_state.specs.Contents.{tables_of}
use Rattle.change_logs.specs.Noting.{purged_of, is_too_young, renewed}
use Rattle.site_state.specs.Fits.{AreWithin}
use Rattle.site_events.specs.Cluster.{Cluster, site_of, at_site}
use Rattle.site_events.specs.Rules.{table_ruled, rows_ruled, is_purged_above, has_young_parents, is_young}
use Rattle.site_events.specs.Events.{Event, master_of, found_site, refreshed, run}
use Rattle.event_laws.specs.Starts.{IsStart}
use Rattle.event_laws.specs.Declared.{AreDeclared}
use Rattle.event_laws.proofs.Sites.{found_name, found_all}
use Rattle.event_laws.proofs.Happening.{run_keeps}
use Rattle.event_laws.proofs.DeclaredSites.{IsSiteOf, becomes_sites_of, start_sites_of}
use Rattle.script_parse.specs.declared.command.Refresh.{Refresh}
use Rattle.script_parse.specs.declared.command.Command.TheVariants as command
use Rattle.event_laws.specs.SnapshotStarts.{master_at}
use Rattle.event_laws.specs.RefreshLaws as law
use Rattle.event_laws.specs.RefreshLaws.{ShowsTheMaster}
use Rattle.event_laws.proofs.Moves.{all_map, all_weaker}
use Rattle.event_laws.proofs.Keys.{both_fail}
use Rattle.event_laws.proofs.SnapshotsKeepUp.{KeepsUp, AllKeepUp}
use Rattle.event_laws.proofs.SitesKeepUp.{KeepUpWith, SiteKeepsUp, found_keeps_up}
use Rattle.event_laws.proofs.SitesKeepUp as keeping
use Rattle.event_laws.proofs.Refreshing.{refreshed_here}
use Rattle.event_laws.proofs.RunsFit.{SitesFit, run_fits}
use Rattle.event_laws.proofs.Events.{run_keeps_up}
use Rattle.event_laws.proofs.SnapshotLaws.{other_keys_are_the_masters, refreshed_is_the_rule, pending_parents_rise}
use Rattle.event_laws.proofs.RisingKeys.{snapshot_keys_rise}
use Rattle.event_laws.proofs.LogLaws.{noted_are_above_purged}
use Rattle.world_state.specs.World.{WorldState}
use Rattle.world_state.specs.Phases.{behind_setup_step}
use Rattle.world_state.specs.Refusals.{young_parents_step, young_step, refresh_steps, world_refusal}
use Rattle.world_state.specs.Steps.{step_by}
use Rattle.world_laws.proofs.Finding.{of_at, of_other}
use Rattle.world_laws.proofs.UnrefusedLines.{refreshed-made}
use Rattle.world_laws.specs.Sites.{master_in, IsShown, OthersAreShown, CanRefreshFrom, EachCanRefresh, EachKeyComesOnce, EachIsNotedSince, EachIsOfSchema, SnapshotsHold}
use Rattle.world_laws.specs.Refreshes.{ShowsItsMaster, RefreshesShowTheQuery}
use Rattle.world_laws.specs.SnapshotWorlds.{GoesOn}
use Rattle.world_laws.proofs.Each.{all_both}
use Rattle.world_laws.proofs.Entries.{no_master, another}

-- where no log is found too young none is
old_parents : (logs : List LogState) (mark : ℕ) (parent : Option Parent) → young_parents_step logs mark parent ≡ None → is_purged_above logs mark parent ≡ false
old_parents logs mark None none = refl
old_parents logs mark (Some p) none = refused-None (nat_lt mark (purged_of p.table logs)) (refusal.LogTooYoung (purged_of p.table logs) mark) none

none_young : (logs : List LogState) (ss : List Snapshot) → young_step logs ss ≡ None → AllByRecursion (λ (s : Snapshot). is_young logs s ≡ false) ss
none_young logs [] none = tt
none_young logs (s ∷ ss) none =
    let own = or_then-None (refused (is_too_young logs s) (refusal.LogTooYoung (purged_of s.table logs) s.mark)) (or_then (young_parents_step logs s.mark s.parent) (young_step logs ss)) none in
    let rest = or_then-None (young_parents_step logs s.mark s.parent) (young_step logs ss) own.1 in (
      both_fail (is_too_young logs s) (has_young_parents logs s) (refused-None (is_too_young logs s) (refusal.LogTooYoung (purged_of s.table logs) s.mark) own.0) (old_parents logs s.mark s.parent rest.0),
      none_young logs ss rest.1,
    )

-- the sites of a run are as the schema declares them
run_sites_of : (schema : Schema) (start : Cluster) (events : List Event) → IsStart schema start → AreDeclared schema start.sites → AllByRecursion (IsSiteOf schema) (run events start).sites
run_sites_of schema start events is declared = run_keeps (λ xs sent. AllByRecursion (IsSiteOf schema) xs) (becomes_sites_of schema) events start (start_sites_of schema start.sites is.sites declared.each)

-- a refresh that isn't refused is of a site that is there, from a master that is there
record MayRefresh (site : SiteName) (w : WorldState) : Type 0 where
  here : SiteState
  found : site_of site w.sites ≡ Some here
  master : SiteState
  served : master_in site w ≡ Some master

may_refresh : (site : SiteName) (mode : Refresh) (w : WorldState) → world_refusal (command.Refresh site mode) w ≡ None → MayRefresh site w
may_refresh site mode w passes = go (site_of site w.sites) refl (master_in site w) refl (or_then-None (behind_setup_step w) _ passes).1
  where
    go : (o : Option SiteState) → site_of site w.sites ≡ o → (p : Option SiteState) → master_in site w ≡ p → first_refusal (known o (λ x. known p (λ master. refresh_steps mode x master w))) ≡ None → MayRefresh site w
    go None found p served none = absurd (cc none)
    go (Some x) found None served none = absurd (cc none)
    go (Some x) found (Some m) served none = record {
      here = x;
      found = found;
      master = m;
      served = served;
    }

module _ (w : WorldState) (g : GoesOn w) where
  abbrev later : Cluster
  later = run g.leads.events g.start

  shape : HasShape w.schema
  shape = g.snapshots.fit.sound.shape

  same : w.sites ≡ later.sites
  same = g.leads.simulates.sites

  fit : SitesFit w.schema later.sites
  fit = run_fits w.schema g.start g.leads.events g.snapshots.fit

  there : (site : SiteName) (x : SiteState) → site_of site w.sites ≡ Some x → site_of site later.sites ≡ Some x
  there site x at_x = ap (site_of site) (sym same) ∙ at_x

  of_schema : EachIsOfSchema w
  of_schema site x at_x = fit.of_schema site x (there site x at_x)

  -- the master of a site has a name
  record HasMaster (site : SiteName) (m : SiteState) : Type 0 where
    name : SiteName
    of_site : master_of w.schema site ≡ Some name
    found : site_of name w.sites ≡ Some m

  master_name : (site : SiteName) (m : SiteState) → master_in site w ≡ Some m → HasMaster site m
  master_name site m at_m = go (master_of w.schema site) refl at_m
    where
      go : (o : Option SiteName) → master_of w.schema site ≡ o → found_site w.sites o ≡ Some m → HasMaster site m
      go None is found = absurd (cc found)
      go (Some name) is found = record { name = name; of_site = is; found = found }

  -- ---- a site and its master

  module _ (site : SiteName) (x m : SiteState) (at_x : site_of site w.sites ≡ Some x) (at_m : master_in site w ≡ Some m) where
    named : HasMaster site m
    named = master_name site m at_m

    x_is : x.schema ≡ w.schema
    x_is = of_schema site x at_x

    named_here : x.here.site ≡ site
    named_here = found_name site w.sites x at_x

    isnt_master : x.here.is_master ≡ false
    isnt_master =
        let is : IsSiteOf w.schema x = found_all (IsSiteOf w.schema) site later.sites x (run_sites_of w.schema g.start g.leads.events g.snapshots.fit.start g.meshed.declared) (there site x at_x) in
        is.declared.is_master ∙ ap (is_master_site w.schema) named_here ∙ no_master w.schema shape site named.name named.of_site

    served_in : keeping.master_in w.schema later.sites x ≡ Some m
    served_in = ap (λ (n : SiteName). found_site later.sites (master_of w.schema n)) named_here ∙ ap (λ (xs : List SiteState). found_site xs (master_of w.schema site)) (sym same) ∙ at_m

    served : master_at later.sites x ≡ Some m
    served = ap (λ (s : Schema). found_site later.sites (master_of s x.here.site)) x_is ∙ served_in

    held : SiteKeepsUp w.schema later.sites later.begun x
    held = found_keeps_up w.schema later.sites later.begun site x (run_keeps_up w.schema g.start g.leads.events g.snapshots) (there site x at_x)

    up : AllKeepUp w.schema later.begun m x x.snapshots
    up = subst (λ (o : Option SiteState). KeepUpWith w.schema later.begun o x) served_in held.snapshots

    masters : AreTables w.schema (tables_of m)
    masters = fit.have named.name m (there named.name m named.found)

    -- what it shows is a table
    picked : AllByRecursion (λ (t : TableRows). IsTable w.schema t.table t.rows) (rows_ruled w.schema (tables_of m) x.snapshots)
    picked = all_map (KeepsUp w.schema later.begun m x) (λ (t : TableRows). IsTable w.schema t.table t.rows)
        (table_ruled w.schema (tables_of m)) x.snapshots
        (λ s one. IsTable-filter w.schema s.table (picks w.schema (tables_of m) s) (rows_of (tables_of m) s.table) (masters.each s.table one.within)) up

    shown : young_step m.logs x.snapshots ≡ None → OthersAreShown m x
    shown none = all_both (law.OthersAreShown m x) (λ (s : Snapshot). is_young m.logs s ≡ false) (IsShown m x) x.snapshots
        (λ s others young. others young)
        (other_keys_are_the_masters w.schema g.start g.leads.events g.snapshots site x m (there site x at_x) served) (none_young m.logs x.snapshots none)

    can_refresh : CanRefreshFrom m x
    can_refresh = record {
      keyed = (fit.can site x (there site x at_x)).keyed;
      no_master = isnt_master;
      schema = of_schema named.name m named.found ∙ sym x_is;
      tables = subst (λ (s : Schema). AreTables s (tables_of x)) (sym x_is) (fit.have site x (there site x at_x));
      master = subst (λ (s : Schema). AreTables s (tables_of m)) (sym x_is) masters;
      within = subst (λ (s : Schema). AreWithin s x.snapshots) (sym x_is) (all_weaker (KeepsUp w.schema later.begun m x) (λ (s : Snapshot). s.table < length w.schema.tables) x.snapshots (λ s one. one.within) up);
      apart = held.apart;
      picked = subst (λ (s : Schema). AllByRecursion (λ (t : TableRows). IsTable s t.table t.rows) (rows_ruled s (tables_of m) x.snapshots)) (sym x_is) picked;
      parents = pending_parents_rise w.schema g.start g.leads.events g.snapshots site x m (there site x at_x) served;
      others = shown;
    }

    -- after a refresh
    abbrev y : SiteState
    y = refreshed w.sites x

    shows : AllByRecursion (ShowsTheMaster m y) y.snapshots
    shows = refreshed_is_the_rule w.schema g.start g.leads.events g.snapshots site x m y (there site x at_x) served isnt_master
        (ap (λ (xs : List SiteState). site_of site (at_site site (refreshed xs) xs)) (sym same) ∙ of_at site (refreshed w.sites) w.sites x (refreshed_here w.sites) at_x)

    kept : y.snapshots ≡ map (renewed m.moment) x.snapshots
    kept = ap (λ (z : SiteState). z.snapshots) (refreshed-made w.sites x m
        (ap (λ (s : Schema). found_site w.sites (master_of s x.here.site)) x_is ∙ ap (λ (n : SiteName). found_site w.sites (master_of w.schema n)) named_here ∙ at_m) isnt_master)

    stays : found_site (at_site site (refreshed w.sites) w.sites) (master_of w.schema site) ≡ Some m
    stays = ap (found_site (at_site site (refreshed w.sites) w.sites)) named.of_site
        ∙ of_other site named.name (refreshed w.sites) w.sites (refreshed_here w.sites) (another w.schema shape site named.name named.of_site) ∙ named.found

  -- ---- the laws

  pub each_can_refresh : EachCanRefresh w
  each_can_refresh site x m at_x at_m = can_refresh site x m at_x at_m

  pub each_key_comes_once : EachKeyComesOnce w
  each_key_comes_once site x at_x = snapshot_keys_rise w.schema g.start g.leads.events g.snapshots site x (there site x at_x)

  pub each_is_noted_since : EachIsNotedSince w
  each_is_noted_since site x at_x master = noted_are_above_purged w.schema g.start g.leads.events g.logs site x (there site x at_x) master

  pub holds : SnapshotsHold w
  holds = record { schemas = of_schema; refreshes = each_can_refresh; keys = each_key_comes_once; logs = each_is_noted_since }

  pub refreshes_show : RefreshesShowTheQuery w
  refreshes_show number site mode passes = subst (λ (r : Option Refusal). ShowsItsMaster site w (step_by r number (command.Refresh site mode) w)) (sym passes) (record {
    before = may.here;
    was = may.found;
    here = refreshed w.sites may.here;
    found = of_at site (refreshed w.sites) w.sites may.here (refreshed_here w.sites) may.found;
    master = may.master;
    served = may.served;
    stays = stays site may.here may.master may.found may.served;
    kept = kept site may.here may.master may.found may.served;
    shows = shows site may.here may.master may.found may.served;
  })
    where
      may : MayRefresh site w
      may = may_refresh site mode w passes
