-- A refresh: the tables that it makes, and that the snapshots keep up with their masters.
use Rattle.std.proofs.Common.{◌≡◌, ◌≢◌, ℕ, ◌<◌, List, [], ◌∷◌, length, map, set, true, false, Some, None, refl, sym, ap, ◌∙◌, arith, inl, inr, subst}
use Rattle.std.specs.Prelude.{◌⊎◌, Option}
use Rattle.std.specs.List.{AllByRecursion}
use Rattle.std.proofs.lemmas.List.{length-set, get_or-set_other, get_or-set_same}
use Rattle.rep_values.specs.declared.name.SiteName.{SiteName}
use Rattle.rep_schema.specs.declared.schema.Schema.{Schema}
use Rattle.rep_schema.specs.Tables.{Rows, columns_of, find_row, rows_of, AreTables}
use Rattle.rep_schema.proofs.FilteredRows.{find_row-filter}
use Rattle.snapshot_query.specs.declared.snapshot.Snapshot.{Snapshot}
use Rattle.snapshot_query.specs.Parents.{picks, rule_rows}
use Rattle.site_state.specs.State.{SiteState}
use Rattle.rep_schema.specs.Sites.{is_among}
use Rattle.site_state.specs.Contents.{tables_of}
use Rattle.site_state.specs.Refreshes.{with_tables, site_refresh}
use Rattle.change_logs.specs.Noting.{renewed}
use Rattle.site_events.specs.Cluster.{site_of}
use Rattle.site_events.specs.Rules.{rows_ruled}
use Rattle.site_events.specs.Events.{master_of, found_site, refreshed, without_found, begun_after}
use Rattle.event_laws.proofs.Sites.{KeepsHere, found_name}
use Rattle.event_laws.proofs.Happening.{IsRefreshed, refreshed_is}
use Rattle.event_laws.proofs.Happening as happening
use Rattle.event_laws.proofs.DeclaredSites.{refreshed_names}
use Rattle.site_state.specs.Fits.{SnapshotsApart}
use Rattle.event_laws.specs.Refreshed.{IsRuled, RefreshedTablesAreTheRules}
use Rattle.event_laws.proofs.Moves.{all_map, all_weaker}
use Rattle.event_laws.proofs.SnapshotsKeepUp.{KeepsUp, AllKeepUp, fewer_begun}
use Rattle.event_laws.proofs.SitesKeepUp.{HaveTables, master_in, Keeps}
use Rattle.event_laws.proofs.Begun.{is_among-gone, is_among-refresh}

-- ---- the tables that a refresh makes

module _ (schema : Schema) (shows : List Rows) where
  -- a table of which there is no snapshot stays
  rows_of-elsewhere : (ss : List Snapshot) (tables : List Rows) (k : ℕ) → AllByRecursion (λ (t : Snapshot). t.table ≢ k) ss → rows_of (with_tables (rows_ruled schema shows ss) tables) k ≡ rows_of tables k
  rows_of-elsewhere [] tables k apart = refl
  rows_of-elsewhere (s ∷ ss) tables k apart = rows_of-elsewhere ss (set tables s.table (rule_rows schema shows s)) k apart.1
      ∙ get_or-set_other tables s.table k (rule_rows schema shows s) [] (λ e. apart.0 (sym e))

  -- each snapshot's table has the rows that it picks
  pub rows_are_ruled : (ss : List Snapshot) (tables : List Rows) → SnapshotsApart ss → AllByRecursion (λ (s : Snapshot). s.table < length tables) ss
      → AllByRecursion (λ (s : Snapshot). rows_of (with_tables (rows_ruled schema shows ss) tables) s.table ≡ rule_rows schema shows s) ss
  rows_are_ruled [] tables apart within = tt
  rows_are_ruled (s ∷ ss) tables apart within = (
    rows_of-elsewhere ss (set tables s.table (rule_rows schema shows s)) s.table apart.0
        ∙ get_or-set_same tables s.table (rule_rows schema shows s) [] within.0,
    rows_are_ruled ss (set tables s.table (rule_rows schema shows s)) apart.1
        (all_weaker (λ (t : Snapshot). t.table < length tables) (λ (t : Snapshot). t.table < length (set tables s.table (rule_rows schema shows s))) ss
        (λ t less. rw (length-set tables s.table (rule_rows schema shows s)) less) within.1),
  )

-- where each snapshot's table is there it has the rows that it picks
pub all_ruled : (x : SiteState) (master : List Rows) (moment : ℕ) → SnapshotsApart x.snapshots → AllByRecursion (λ (s : Snapshot). s.table < length (tables_of x)) x.snapshots
    → AllByRecursion (IsRuled x.schema master moment (tables_of (site_refresh (rows_ruled x.schema master x.snapshots) moment x))) (map (renewed moment) x.snapshots)
all_ruled x master moment apart within = all_map
    (λ (s : Snapshot). rows_of (with_tables (rows_ruled x.schema master x.snapshots) (tables_of x)) s.table ≡ rule_rows x.schema master s)
    (IsRuled x.schema master moment (tables_of (site_refresh (rows_ruled x.schema master x.snapshots) moment x))) (renewed moment) x.snapshots
    (λ s rows. record { rows = rows; mark = refl; touched = refl }) (rows_are_ruled x.schema master x.snapshots (tables_of x) apart within)

pub refreshed_tables_are_the_rules : RefreshedTablesAreTheRules
refreshed_tables_are_the_rules x master moment number within apart = record {
  ruled = all_ruled x master moment apart
      (all_weaker (λ (s : Snapshot). s.table < length x.schema.tables) (λ (s : Snapshot). s.table < length (tables_of x)) x.snapshots (λ s less. subst (λ n. s.table < n) (sym number) less) within);
  others = λ table none. rows_of-elsewhere x.schema master x.snapshots (tables_of x) table none;
}

apart_renewed : (moment : ℕ) (ss : List Snapshot) → SnapshotsApart ss → SnapshotsApart (map (renewed moment) ss)
apart_renewed moment [] apart = tt
apart_renewed moment (s ∷ ss) apart =
    (all_map (λ (t : Snapshot). t.table ≢ s.table) (λ (t : Snapshot). t.table ≢ s.table) (renewed moment) ss (λ t other. other) apart.0, apart_renewed moment ss apart.1)

all_both : {X Y : Type 0} (P Q : X → Type 0) (R : Y → Type 0) (f : X → Y) (xs : List X) → ((x : X) → P x → Q x → R (f x)) → AllByRecursion P xs → AllByRecursion Q xs → AllByRecursion R (map f xs)
all_both P Q R f [] each ps qs = tt
all_both P Q R f (x ∷ xs) each ps qs = (each x ps.0 qs.0, all_both P Q R f xs each ps.1 qs.1)

-- ---- a refresh as an event at one site

-- it leaves what the site is
pub refreshed_here : (sites : List SiteState) → KeepsHere (refreshed sites)
refreshed_here sites x = (refreshed_names sites x (refreshed sites x) (refreshed_is sites x)).here

-- each site that is there is one of the schema
abbrev pub AreOfSchema : Schema → List SiteState → Type 0
AreOfSchema schema sites = (name : SiteName) (x : SiteState) → site_of name sites ≡ Some x → x.schema ≡ schema

module _ (schema : Schema) where
  -- the tables of a site's master are tables
  pub masters_tables : (sites : List SiteState) (x m : SiteState) → HaveTables schema sites → master_in schema sites x ≡ Some m → AreTables schema (tables_of m)
  masters_tables sites x m have there = go (master_of schema x.here.site) there
    where
      go : (o : Option SiteName) → found_site sites o ≡ Some m → AreTables schema (tables_of m)
      go None there = absurd (cc there)
      go (Some master) there = have master m there

  -- the snapshots of a site are of tables that are there
  pub within_tables : (begun : List SiteName) (m x : SiteState) (tables : List Rows) → AreTables schema tables → (ss : List Snapshot) → AllKeepUp schema begun m x ss → AllByRecursion (λ (s : Snapshot). s.table < length tables) ss
  within_tables begun m x tables are ss up = all_weaker (KeepsUp schema begun m x) (λ (s : Snapshot). s.table < length tables) ss (λ s one. rw are.number one.within) up

  module _ (sites : List SiteState) (begun : List SiteName) (name : SiteName) (have : HaveTables schema sites) (of_schema : AreOfSchema schema sites) where
    abbrev later : List SiteName
    later = begun_after name (site_of name sites) begun

    -- a master isn't refreshed
    refreshed-master : (x y : SiteState) → x.here.is_master ≡ true → IsRefreshed sites x y → y ≡ x
    refreshed-master x _ is happening.Not = refl
    refreshed-master x _ is (happening.From master found isnt) = absurd (cc (is, isnt))

    apart_by : (x y : SiteState) → IsRefreshed sites x y → SnapshotsApart x.snapshots → SnapshotsApart y.snapshots
    apart_by x _ happening.Not apart = apart
    apart_by x _ (happening.From master found isnt) apart = apart_renewed master.moment x.snapshots apart

    none_by : (x y : SiteState) → IsRefreshed sites x y → x.snapshots ≡ [] → y.snapshots ≡ []
    none_by x _ happening.Not none = none
    none_by x _ (happening.From master found isnt) none = ap (map (renewed master.moment)) none

    -- at the master no pass counts as begun any more
    ended : (x m : SiteState) → site_of name sites ≡ Some x → master_in schema sites x ≡ Some m → is_among later m.here.site ≡ false
    ended x m at_x there = rw at_x (go (master_of schema x.here.site) refl there)
      where
        go : (o : Option SiteName) → master_of schema x.here.site ≡ o → found_site sites o ≡ Some m → is_among (without_found (master_of x.schema name) begun) m.here.site ≡ false
        go None is there = absurd (cc there)
        go (Some master) is there =
            let same : master_of x.schema name ≡ Some master =
            ap (λ (s : Schema). master_of s name) (of_schema name x at_x) ∙ ap (master_of schema) (sym (found_name name sites x at_x)) ∙ is in
            rw (same, found_name master sites m there) (is_among-gone master begun)

    -- the snapshots that were refreshed show their master's tables of this moment
    renewed_keeps_up : (m x : SiteState) (s : Snapshot) → AreTables schema (tables_of m) → is_among later m.here.site ≡ false → KeepsUp schema begun m x s
        → rows_of (with_tables (rows_ruled schema (tables_of m) x.snapshots) (tables_of x)) s.table ≡ rule_rows schema (tables_of m) s
        → KeepsUp schema later m (site_refresh (rows_ruled schema (tables_of m) x.snapshots) m.moment x) (renewed m.moment s)
    renewed_keeps_up m x s are end h rows = record {
      master = h.master;
      logged = h.logged;
      parent_logged = h.parent_logged;
      parents_rise = h.parents_rise;
      below = omega arith;
      before = λ is. absurd (cc (end, is));
      within = h.within;
      parent_within = h.parent_within;
      others = λ key le old untold untouched up_to_date.
          ap (find_row (columns_of schema s.table) key) rows ∙ find_row-filter (columns_of schema s.table) (picks schema (tables_of m) s) key (rows_of (tables_of m) s.table) (are.each s.table h.within).rising;
    }

    -- the master is the one from before
    master_stays : (x m n : SiteState) (ss : List Snapshot) → AllKeepUp schema begun m x ss → (n ≡ m) ⊎ (n ≡ refreshed sites m) → (ss ≡ []) ⊎ (n ≡ m)
    master_stays x m n [] up either = inl refl
    master_stays x m n (s ∷ ss) up (inl same) = inr same
    master_stays x m n (s ∷ ss) up (inr same) = inr (same ∙ refreshed-master m (refreshed sites m) up.0.master (refreshed_is sites m))

    none_keep_up : (n y : SiteState) → y.snapshots ≡ [] → AllKeepUp schema later n y y.snapshots
    none_keep_up n y none = subst (AllKeepUp schema later n y) (sym none) tt

    own_by : (x m n y : SiteState) → IsRefreshed sites x y → site_of name sites ≡ Some x → master_in schema sites x ≡ Some m → SnapshotsApart x.snapshots → AllKeepUp schema begun m x x.snapshots → (x.snapshots ≡ []) ⊎ (n ≡ m)
        → AllKeepUp schema later n x x.snapshots → AllKeepUp schema later n y y.snapshots
    own_by x m n _ happening.Not at_x there apart up stays new = new
    own_by x m n y (happening.From master found isnt) at_x there apart up (inl none) new = none_keep_up n _ (ap (map (renewed master.moment)) none)
    own_by x m n _ (happening.From master found isnt) at_x there apart up (inr stays) new =
        let is : master ≡ m = cc (sym found ∙ ap (λ (s : Schema). found_site sites (master_of s x.here.site)) (of_schema name x at_x) ∙ there) in
        subst (λ (c : Schema). AllKeepUp schema later n (site_refresh (rows_ruled c (tables_of master) x.snapshots) master.moment x) (map (renewed master.moment) x.snapshots)) (sym (of_schema name x at_x))
        (subst (λ (k : SiteState). AllKeepUp schema later n (site_refresh (rows_ruled schema (tables_of k) x.snapshots) k.moment x) (map (renewed k.moment) x.snapshots)) (sym is)
        (subst (λ (k : SiteState). AllKeepUp schema later k (site_refresh (rows_ruled schema (tables_of m) x.snapshots) m.moment x) (map (renewed m.moment) x.snapshots)) (sym stays)
        (all_both (KeepsUp schema begun m x)
        (λ (s : Snapshot). rows_of (with_tables (rows_ruled schema (tables_of m) x.snapshots) (tables_of x)) s.table ≡ rule_rows schema (tables_of m) s)
        (KeepsUp schema later m (site_refresh (rows_ruled schema (tables_of m) x.snapshots) m.moment x)) (renewed m.moment) x.snapshots
        (λ s one rows. renewed_keeps_up m x s (masters_tables sites x m have there) (ended x m at_x there) one rows)
        up (rows_are_ruled schema (tables_of m) x.snapshots (tables_of x) apart (within_tables begun m x (tables_of x) (have name x at_x) x.snapshots up)))))

    pub refresh_keeps : Keeps schema sites begun later name (refreshed sites)
    refresh_keeps = record {
      here = λ x. refreshed_here sites x;
      apart = λ x at_x. apart_by x (refreshed sites x) (refreshed_is sites x);
      none = λ x at_x. none_by x (refreshed sites x) (refreshed_is sites x);
      master = λ m x s at_m one. subst (λ (k : SiteState). KeepsUp schema later k x s) (sym (refreshed-master m (refreshed sites m) one.master (refreshed_is sites m)))
          (fewer_begun schema begun later m x s (is_among-refresh name m.here.site (site_of name sites) begun) one);
      other = λ m x s isnt one. fewer_begun schema begun later m x s (is_among-refresh name m.here.site (site_of name sites) begun) one;
      own = λ x m n at_x there apart up either new. own_by x m n (refreshed sites x) (refreshed_is sites x) at_x there apart up (master_stays x m n x.snapshots up either) new;
    }
