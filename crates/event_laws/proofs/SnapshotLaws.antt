-- The laws of snapshots.
use Rattle.std.proofs.Common.{◌≡◌, ℕ, ◌≤◌, List, [], ◌∷◌, map, Bool, true, false, cond, not, Some, None, refl, sym, ap, ◌∙◌, arith, subst}
use Rattle.std.specs.Prelude.{Option, nat_lt}
use Rattle.std.specs.List.{AllByRecursion}
use Rattle.std.proofs.lemmas.Bool.Decides.{nat_tests}
use Rattle.rep_values.specs.declared.name.SiteName.{SiteName}
use Rattle.rep_schema.specs.declared.schema.Schema.{Schema}
use Rattle.rep_schema.specs.Tables.{Rows, columns_of, rows_of, AreTables}
use Rattle.rep_values.specs.SiteNames.{is_same_site}
use Rattle.deferred_queue.proofs.Sites.{is_same_site-true}
use Rattle.snapshot_query.specs.declared.parent.Parent.{Parent}
use Rattle.snapshot_query.specs.declared.snapshot.Snapshot.{Snapshot}
use Rattle.snapshot_query.specs.Parents.{picks, rule_rows}
use Rattle.site_state.specs.State.{SiteState}
use Rattle.change_logs.specs.LogState.{LogState}
use Rattle.site_state.specs.Contents.{tables_of}
use Rattle.change_logs.specs.Noting.{purged_of, is_too_young, renewed}
use Rattle.site_state.specs.Refreshes.{site_refresh}
use Rattle.site_events.specs.Cluster.{Cluster, site_of, at_site}
use Rattle.site_events.specs.Rules.{rows_ruled, is_purged_above, has_young_parents, is_young}
use Rattle.site_events.specs.Events.{Event, master_of, found_site, refreshed_from, refreshed, run}
use Rattle.site_state.specs.Fits.{SnapshotsApart}
use Rattle.event_laws.specs.WaitingRows.{outdated_keys, IsParentOld}
use Rattle.event_laws.specs.Pending.{pending_table, pending_rows}
use Rattle.event_laws.specs.SnapshotStarts.{master_at, IsSnapshotStart}
use Rattle.event_laws.specs.RefreshLaws.{OthersAreShown, OtherKeysAreTheMasters, FastIsComplete, ShowsTheMaster, RefreshedIsTheRule, ParentsRise, PendingParentsRise}
use Rattle.event_laws.proofs.Keys.{neither, has_key-with_keys, told}
use Rattle.event_laws.proofs.RowsFromKeys.{rows_from_keys-filter}
use Rattle.event_laws.proofs.Moves.{all_weaker}
use Rattle.event_laws.proofs.ParentKeys.{rising_parents}
use Rattle.event_laws.proofs.SnapshotsKeepUp.{KeepsUp, AllKeepUp}
use Rattle.event_laws.proofs.UpToDate.{is_up_to_date}
use Rattle.event_laws.proofs.SitesKeepUp.{site_of-at_site, KeepUpWith, SiteKeepsUp, master_in, found_keeps_up}
use Rattle.event_laws.proofs.Refreshing.{all_ruled, masters_tables, within_tables, refreshed_here}
use Rattle.event_laws.proofs.RunsFit.{SitesFit, run_fits}
use Rattle.event_laws.proofs.Events.{run_keeps_up}

-- a log that isn't too young isn't purged above the mark
not_above : (mark purged : ℕ) → nat_lt mark purged ≡ false → purged ≤ mark
not_above mark purged is = grind (arith, nat_tests)

parents_not_above : (logs : List LogState) (mark : ℕ) (parent : Option Parent) → is_purged_above logs mark parent ≡ false → IsParentOld logs mark parent
parents_not_above logs mark None is = tt
parents_not_above logs mark (Some p) is = not_above mark (purged_of p.table logs) is

-- ---- a snapshot that keeps up

module _ (begun : List SiteName) (m x : SiteState) where
  others_shown : (s : Snapshot) → KeepsUp x.schema begun m x s → OthersAreShown m x s
  others_shown s up young = record {
    shows = λ key none.
        let old = neither (is_too_young m.logs s) (has_young_parents m.logs s) young in
        let both = is_up_to_date x.schema m.logs (tables_of m) s key none in
        let own = has_key-with_keys key (told s.table s.mark m.logs) s.touched both.0 in
        up.others key (not_above s.mark (purged_of s.table m.logs) old.0) (parents_not_above m.logs s.mark s.parent old.1) own.0 own.1 both.1;
  }

  -- the keys that aren't up to date make its table what it picks
  pending_is : (s : Snapshot) → AreTables x.schema (tables_of m) → AreTables x.schema (tables_of x) → KeepsUp x.schema begun m x s → is_young m.logs s ≡ false
      → pending_table m x s ≡ record { table = s.table; rows = rule_rows x.schema (tables_of m) s }
  pending_is s are_m are_x up young = ap (λ (rows : Rows). record { table = s.table; rows = rows })
      (rows_from_keys-filter (columns_of x.schema s.table) (picks x.schema (tables_of m) s) (rows_of (tables_of m) s.table) (are_m.each s.table up.within).rising (outdated_keys x.schema m.logs (tables_of m) s) (rows_of (tables_of x) s.table)
      (are_x.each s.table up.within).rising (others_shown s up young))

  all_pending : (ss : List Snapshot) → AreTables x.schema (tables_of m) → AreTables x.schema (tables_of x) → AllKeepUp x.schema begun m x ss → AllByRecursion (λ (s : Snapshot). is_young m.logs s ≡ false) ss
      → map (pending_table m x) ss ≡ rows_ruled x.schema (tables_of m) ss
  all_pending [] are_m are_x up young = refl
  all_pending (s ∷ ss) are_m are_x up young = rw (pending_is s are_m are_x up.0 young.0, all_pending ss are_m are_x up.1 young.1) refl

  -- after a refresh its table has the rows that it picks
  refreshed_all : AreTables x.schema (tables_of x) → SnapshotsApart x.snapshots → AllKeepUp x.schema begun m x x.snapshots
      → AllByRecursion (ShowsTheMaster m (site_refresh (rows_ruled x.schema (tables_of m) x.snapshots) m.moment x)) (map (renewed m.moment) x.snapshots)
  refreshed_all are apart up = all_ruled x (tables_of m) m.moment apart (within_tables x.schema begun m x (tables_of x) are x.snapshots up)

-- ---- a site of a run and its master

module _ (schema : Schema) (start : Cluster) (events : List Event) (is : IsSnapshotStart schema start) where
  abbrev w : Cluster
  w = run events start

  fit : SitesFit schema w.sites
  fit = run_fits schema start events is.fit

  module _ (site : SiteName) (x m : SiteState) (at_x : site_of site w.sites ≡ Some x) (at_m : master_at w.sites x ≡ Some m) where
    same : x.schema ≡ schema
    same = fit.of_schema site x at_x

    served : master_in schema w.sites x ≡ Some m
    served = ap (λ (s : Schema). found_site w.sites (master_of s x.here.site)) (sym same) ∙ at_m

    held : SiteKeepsUp schema w.sites w.begun x
    held = found_keeps_up schema w.sites w.begun site x (run_keeps_up schema start events is) at_x

    up : AllKeepUp x.schema w.begun m x x.snapshots
    up = subst (λ (c : Schema). AllKeepUp c w.begun m x x.snapshots) (sym same) (subst (λ (o : Option SiteState). KeepUpWith schema w.begun o x) served held.snapshots)

    own_tables : AreTables x.schema (tables_of x)
    own_tables = subst (λ (c : Schema). AreTables c (tables_of x)) (sym same) (fit.have site x at_x)

    tables : AreTables x.schema (tables_of m)
    tables = subst (λ (c : Schema). AreTables c (tables_of m)) (sym same) (masters_tables schema w.sites x m fit.have served)

    others : AllByRecursion (OthersAreShown m x) x.snapshots
    others = all_weaker (KeepsUp x.schema w.begun m x) (OthersAreShown m x) x.snapshots (others_shown w.begun m x) up

    complete : AllByRecursion (λ (s : Snapshot). is_young m.logs s ≡ false) x.snapshots → pending_rows m x ≡ rows_ruled x.schema (tables_of m) x.snapshots
    complete young = all_pending w.begun m x x.snapshots tables own_tables up young

    parents_rise : AllByRecursion (ParentsRise x.schema m) x.snapshots
    parents_rise = all_weaker (KeepsUp x.schema w.begun m x) (ParentsRise x.schema m) x.snapshots
        (λ s one. record { within = one.parent_within; pending = rising_parents m.logs s.mark s.parent one.parents_rise }) up

    -- ---- after a refresh

    made : x.here.is_master ≡ false → refreshed w.sites x ≡ site_refresh (rows_ruled x.schema (tables_of m) x.snapshots) m.moment x
    made no_master = ap (λ (o : Option SiteState). refreshed_from o x) at_m ∙ ap (λ (b : Bool). cond b (site_refresh (rows_ruled x.schema (tables_of m) x.snapshots) m.moment x) x) (ap not no_master)

    own_name : is_same_site site site ≡ true
    own_name = named w.sites at_x
      where
        named : (xs : List SiteState) → site_of site xs ≡ Some x → is_same_site site site ≡ true
        named [] there = absurd (cc there)
        named (y ∷ ys) there = go (is_same_site y.here.site site) refl (named ys) there
          where
            go : (b : Bool) → is_same_site y.here.site site ≡ b → (site_of site ys ≡ Some x → is_same_site site site ≡ true) → cond b (Some y) (site_of site ys) ≡ Some x → is_same_site site site ≡ true
            go true is later there = ap (λ (n : SiteName). is_same_site n site) (sym (is_same_site-true y.here.site site is)) ∙ is
            go false is later there = later there

    found : site_of site (at_site site (refreshed w.sites) w.sites) ≡ Some (refreshed w.sites x)
    found = site_of-at_site site site (refreshed w.sites) w.sites (refreshed_here w.sites) ∙ rw (own_name, at_x) refl

    shows : (y : SiteState) → x.here.is_master ≡ false → site_of site (at_site site (refreshed w.sites) w.sites) ≡ Some y → AllByRecursion (ShowsTheMaster m y) y.snapshots
    shows y no_master at_y =
        let comes : refreshed w.sites x ≡ y = cc (sym found ∙ at_y) in
        subst (λ (z : SiteState). AllByRecursion (ShowsTheMaster m z) z.snapshots) (sym (made no_master) ∙ comes)
        (refreshed_all w.begun m x own_tables held.apart up)

pub other_keys_are_the_masters : OtherKeysAreTheMasters
other_keys_are_the_masters schema start events is site x m at_x at_m = others schema start events is site x m at_x at_m

pub fast_is_complete : FastIsComplete
fast_is_complete schema start events is site x m at_x at_m = complete schema start events is site x m at_x at_m

pub refreshed_is_the_rule : RefreshedIsTheRule
refreshed_is_the_rule schema start events is site x m y at_x at_m no_master at_y = shows schema start events is site x m at_x at_m y no_master at_y

pub pending_parents_rise : PendingParentsRise
pending_parents_rise schema start events is site x m at_x at_m = parents_rise schema start events is site x m at_x at_m
