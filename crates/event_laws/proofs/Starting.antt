-- At a start with snapshots each snapshot keeps up with its master.
use Rattle.std.proofs.Common.{◌≡◌, ◌<◌, List, [], ◌∷◌, Some, None, refl, sym, ap, ◌∙◌, subst}
use Rattle.std.specs.Prelude.{Option, length}
use Rattle.std.specs.List.{AllByRecursion}
use Rattle.rep_values.specs.declared.name.SiteName.{SiteName}
use Rattle.rep_schema.specs.declared.schema.Schema.{Schema}
use Rattle.rep_schema.specs.Tables.{Rows, columns_of, find_row, rows_of, AreTables}
use Rattle.rep_schema.proofs.FilteredRows.{find_row-filter}
use Rattle.snapshot_query.specs.declared.snapshot.Snapshot.{Snapshot}
use Rattle.snapshot_query.specs.Parents.{picks, rule_rows}
use Rattle.site_state.specs.declared.entry.Entry.{Entry}
use Rattle.site_state.specs.State.{SiteState}
use Rattle.rep_schema.specs.Sites.{is_among}
use Rattle.site_state.specs.Contents.{journal_content, tables_of}
use Rattle.site_state.specs.Fits.{AreWithin}
use Rattle.site_events.specs.Cluster.{Cluster, site_of}
use Rattle.site_events.specs.Rules.{IsParentWithin}
use Rattle.site_events.specs.Events.{master_of, found_site}
use Rattle.event_laws.specs.Starts.{IsNewSite}
use Rattle.event_laws.specs.Fitting.{StartsFit}
use Rattle.event_laws.proofs.Sites.{found_all}
use Rattle.event_laws.specs.SnapshotStarts.{StartsShown, StartsFrom, StartsWithSnapshots, IsSnapshotStart}
use Rattle.event_laws.proofs.SnapshotsKeepUp.{KeepsUp, AllKeepUp}
use Rattle.event_laws.proofs.SitesKeepUp.{KeepUpWith, SitesKeepUp, KeepsUpAt}
use Rattle.event_laws.proofs.RunsFit.{run_fits}

module _ (schema : Schema) where
  -- the tables of a new site are its base rows
  tables_of-new : (x : SiteState) → IsNewSite schema x → tables_of x ≡ x.base
  tables_of-new x new = ap (λ (j : List Entry). (journal_content x.schema x.here.site x.base j).tables) new.journal

  module _ (start : Cluster) (is : IsSnapshotStart schema start) where
    shown_keeps_up : (m x : SiteState) (s : Snapshot) → IsNewSite schema m → IsNewSite schema x → AreTables schema (tables_of m) → s.table < length schema.tables → StartsShown m x s → KeepsUp schema start.begun m x s
    shown_keeps_up m x s new_m new are within shows = record {
      master = shows.master;
      logged = shows.logged;
      parent_logged = shows.parent_logged;
      parents_rise = shows.parents_rise;
      below = shows.below;
      before = λ among. absurd (cc (ap (λ (names : List SiteName). is_among names m.here.site) is.begun, among));
      within = within;
      parent_within = subst (λ (c : Schema). IsParentWithin c s.parent) new.schema_is shows.parent_within;
      others = λ key le old untold untouched up_to_date.
          ap (find_row (columns_of schema s.table) key) rows ∙ find_row-filter (columns_of schema s.table) (picks schema (tables_of m) s) key (rows_of (tables_of m) s.table) (are.each s.table within).rising;
    }
      where
        rows : rows_of (tables_of x) s.table ≡ rule_rows schema (tables_of m) s
        rows = ap (λ (tables : List Rows). rows_of tables s.table) (tables_of-new x new) ∙ shows.rows ∙ ap (λ (c : Schema). rule_rows c m.base s) new.schema_is
            ∙ ap (λ (tables : List Rows). rule_rows schema tables s) (sym (tables_of-new m new_m))

    all_shown : (m x : SiteState) → IsNewSite schema m → IsNewSite schema x → AreTables schema (tables_of m) → (ss : List Snapshot) → AreWithin schema ss → AllByRecursion (StartsShown m x) ss → AllKeepUp schema start.begun m x ss
    all_shown m x new_m new are [] within shows = tt
    all_shown m x new_m new are (s ∷ ss) within shows = (shown_keeps_up m x s new_m new are within.0 shows.0, all_shown m x new_m new are ss within.1 shows.1)

    -- without a master there are no snapshots
    none_shown : (x : SiteState) (ss : List Snapshot) → AllByRecursion (StartsFrom None x) ss → ss ≡ []
    none_shown x [] shows = refl
    none_shown x (s ∷ ss) shows = absurd shows.0

    new_there : (name : SiteName) (x : SiteState) → site_of name start.sites ≡ Some x → IsNewSite schema x
    new_there name x there = found_all (IsNewSite schema) name start.sites x is.fit.start.sites there

    from_master : (x : SiteState) → IsNewSite schema x → AreWithin schema x.snapshots → (master : Option SiteName) → AllByRecursion (StartsFrom (found_site start.sites master) x) x.snapshots
        → KeepUpWith schema start.begun (found_site start.sites master) x
    from_master x new within None shows = none_shown x x.snapshots shows
    from_master x new within (Some master) shows = go (site_of master start.sites) refl shows
      where
        go : (o : Option SiteState) → site_of master start.sites ≡ o → AllByRecursion (StartsFrom o x) x.snapshots → KeepUpWith schema start.begun o x
        go None there shows = none_shown x x.snapshots shows
        go (Some m) there shows = all_shown m x (new_there master m there) new ((run_fits schema start [] is.fit).have master m there) x.snapshots within shows

    pub start_keeps_up : SitesKeepUp schema start.sites start.begun
    start_keeps_up name = go (site_of name start.sites) refl
      where
        go : (o : Option SiteState) → site_of name start.sites ≡ o → KeepsUpAt schema start.sites start.begun o
        go None there = tt
        go (Some x) there =
            let starts = found_all (StartsWithSnapshots start.sites) name start.sites x is.sites there in
            let fits = found_all (StartsFit schema) name start.sites x is.fit.sites there in
            let new = new_there name x there in
            record {
              apart = starts.apart;
              snapshots = subst (λ (s : Schema). KeepUpWith schema start.begun (found_site start.sites (master_of s x.here.site)) x) new.schema_is
                  (from_master x new fits.within (master_of x.schema x.here.site) starts.shown);
            }
