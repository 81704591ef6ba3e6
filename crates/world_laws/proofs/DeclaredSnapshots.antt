-- A site's snapshots, of those that are declared.
use Rattle.std.proofs.Common.{◌≡◌, ◌≢◌, ℕ, ◌==◌, List, [], ◌∷◌, ◌++◌, map, Bool, true, false, cond, Some, None, refl, sym, ap, ◌∙◌, arith, subst}
use Rattle.std.specs.Prelude.{◌&&◌, ◌||◌, Option, filter}
use Rattle.std.specs.List.{AllByRecursion}
use Rattle.std.proofs.lemmas.Bool.{and_from, or_parts, or_from, or_right}
use Rattle.std.proofs.lemmas.Bool.Decides.{nat_tests}
use Rattle.rep_values.specs.declared.name.SiteName.{SiteName}
use Rattle.rep_values.specs.SiteNames.{is_same_site}
use Rattle.deferred_queue.proofs.Sites.{is_same_site-true, is_same_site-refl, eq_true}
use Rattle.snapshot_query.specs.declared.parent.Parent.{Parent}
use Rattle.snapshot_query.specs.declared.snapshot.Snapshot.{Snapshot}
use Rattle.site_state.specs.Fits.{SnapshotsApart}
use Rattle.event_laws.proofs.Moves.{all_weaker}
use Rattle.world_state.specs.declared.declared_snapshot.DeclaredSnapshot.{DeclaredSnapshot}
use Rattle.world_state.specs.Declaring.{is_snapshot_of, has_snapshot}
use Rattle.world_state.specs.Making.{is_of_parents, goes_by_log, needs_log, snapshots_at}
use Rattle.world_laws.specs.WellDeclared.{AreDeclaredOnce}
use Rattle.world_laws.proofs.Logging.{ParentNeedsLog}

-- a declared snapshot as its site has it
abbrev as_made : DeclaredSnapshot → Snapshot
as_made d = record { table = d.table; query = d.query; parent = d.parent; mark = 0; touched = [] }

abbrev is_at : SiteName → DeclaredSnapshot → Bool
is_at site d = is_same_site d.site site

-- what holds of each that is declared holds of those of a site
pub each_at : (P : DeclaredSnapshot → Type 0) (Q : Snapshot → Type 0) (ds : List DeclaredSnapshot) (site : SiteName) → ((d : DeclaredSnapshot) → P d → Q (as_made d)) → AllByRecursion P ds → AllByRecursion Q (snapshots_at ds site)
each_at P Q [] site each all = tt
each_at P Q (d ∷ ds) site each all = go (is_same_site d.site site) (each_at P Q ds site each all.1)
  where
    go : (b : Bool) → AllByRecursion Q (snapshots_at ds site) → AllByRecursion Q (map as_made (cond b (d ∷ filter (is_at site) ds) (filter (is_at site) ds)))
    go true later = (each d all.0, later)
    go false later = later

-- the logs that a snapshot of a site goes by are needed
pub record NeedsLogs (ds : List DeclaredSnapshot) (site : SiteName) (s : Snapshot) : Type 0 where
  pub own : needs_log ds site s.table ≡ true
  pub parents : ParentNeedsLog ds site s.parent

module _ (d : DeclaredSnapshot) (ds : List DeclaredSnapshot) (site : SiteName) where
  -- by one more they still are
  needs_more : (s : Snapshot) → NeedsLogs ds site s → NeedsLogs (d ∷ ds) site s
  needs_more s needs = record { own = or_right (goes_by_log site s.table d) (needs_log ds site s.table) needs.own; parents = more s.parent needs.parents }
    where
      more : (parent : Option Parent) → ParentNeedsLog ds site parent → ParentNeedsLog (d ∷ ds) site parent
      more None needs = tt
      more (Some p) needs = or_right (goes_by_log site p.table d) (needs_log ds site p.table) needs

  -- and so are those of the first
  needs_first : is_same_site d.site site ≡ true → NeedsLogs (d ∷ ds) site (as_made d)
  needs_first is = record { own = rw (is, eq_true d.table d.table refl) refl; parents = first d.parent refl }
    where
      goes : (p : Parent) → d.parent ≡ Some p → goes_by_log site p.table d ≡ true
      goes p has = and_from (is_same_site d.site site) (d.table == p.table || is_of_parents p.table d.parent) is
          (or_right (d.table == p.table) (is_of_parents p.table d.parent) (ap (is_of_parents p.table) has ∙ eq_true p.table p.table refl))

      first : (parent : Option Parent) → d.parent ≡ parent → ParentNeedsLog (d ∷ ds) site parent
      first None has = tt
      first (Some p) has = ap (λ (b : Bool). b || needs_log ds site p.table) (goes p has)

-- so it is with each of them
pub each_needs : (ds : List DeclaredSnapshot) (site : SiteName) → AllByRecursion (NeedsLogs ds site) (snapshots_at ds site)
each_needs [] site = tt
each_needs (d ∷ ds) site = go (is_same_site d.site site) refl (all_weaker (NeedsLogs ds site) (NeedsLogs (d ∷ ds) site) (snapshots_at ds site) (needs_more d ds site) (each_needs ds site))
  where
    go : (b : Bool) → is_same_site d.site site ≡ b → AllByRecursion (NeedsLogs (d ∷ ds) site) (snapshots_at ds site)
        → AllByRecursion (NeedsLogs (d ∷ ds) site) (map as_made (cond b (d ∷ filter (is_at site) ds) (filter (is_at site) ds)))
    go true is later = (needs_first d ds site is, later)
    go false is later = later

-- where none is declared of a table, none is of it
none_of : (ds : List DeclaredSnapshot) (site : SiteName) (table : ℕ) → has_snapshot ds site table ≡ false → AllByRecursion (λ (s : Snapshot). s.table ≢ table) (snapshots_at ds site)
none_of [] site table none = tt
none_of (d ∷ ds) site table none = go (is_same_site d.site site) refl (none_of ds site table parts.1)
  where
    parts : (is_snapshot_of site table d ≡ false) × (has_snapshot ds site table ≡ false)
    parts = or_parts (is_snapshot_of site table d) (has_snapshot ds site table) none

    other : is_same_site d.site site ≡ true → d.table ≢ table
    other is same =
        let off : (d.table == table) ≡ false = rw is at parts.0 in
        let on : (d.table == table) ≡ true = eq_true d.table table same in
        absurd (cc (off, on))

    go : (b : Bool) → is_same_site d.site site ≡ b → AllByRecursion (λ (s : Snapshot). s.table ≢ table) (snapshots_at ds site)
        → AllByRecursion (λ (s : Snapshot). s.table ≢ table) (map as_made (cond b (d ∷ filter (is_at site) ds) (filter (is_at site) ds)))
    go true is later = (other is, later)
    go false is later = later

-- no table has two of them
pub apart_at : (ds : List DeclaredSnapshot) (site : SiteName) → AreDeclaredOnce ds → SnapshotsApart (snapshots_at ds site)
apart_at [] site once = tt
apart_at (d ∷ ds) site once = go (is_same_site d.site site) refl (apart_at ds site once.1)
  where
    go : (b : Bool) → is_same_site d.site site ≡ b → SnapshotsApart (snapshots_at ds site) → SnapshotsApart (map as_made (cond b (d ∷ filter (is_at site) ds) (filter (is_at site) ds)))
    go true is later = (none_of ds site d.table (subst (λ (n : SiteName). has_snapshot ds n d.table ≡ false) (is_same_site-true d.site site is) once.0), later)
    go false is later = later

-- ---- one more

-- where a snapshot isn't of another one's table at its site, that isn't of its own
other_way : (site : SiteName) (table : ℕ) (d : DeclaredSnapshot) → (is_same_site d.site site && d.table == table) ≡ false → (is_same_site site d.site && table == d.table) ≡ false
other_way site table d off = by (is_same_site site d.site) refl (table == d.table) refl
  where
    by : (b : Bool) → is_same_site site d.site ≡ b → (c : Bool) → (table == d.table) ≡ c → (b && c) ≡ false
    by false is c is_c = refl
    by true is false is_c = refl
    by true is true is_c =
        let table_same : table ≡ d.table = grind (arith, nat_tests, is_c) in
        let site_same : site ≡ d.site = is_same_site-true site d.site is in
        let on : is_same_site d.site site ≡ true = ap (λ (n : SiteName). is_same_site d.site n) site_same ∙ is_same_site-refl d.site in
        let both : (is_same_site d.site site && d.table == table) ≡ true = rw (on, eq_true d.table table (sym table_same)) refl in
        absurd (cc (off, both))

has_snapshot-push : (ds : List DeclaredSnapshot) (new : DeclaredSnapshot) (site : SiteName) (table : ℕ) → has_snapshot ds site table ≡ false → is_snapshot_of site table new ≡ false → has_snapshot (ds ++ new ∷ []) site table ≡ false
has_snapshot-push [] new site table none off = or_from (is_snapshot_of site table new) false off refl
has_snapshot-push (d ∷ ds) new site table none off =
    let parts = or_parts (is_snapshot_of site table d) (has_snapshot ds site table) none in
    or_from (is_snapshot_of site table d) (has_snapshot (ds ++ new ∷ []) site table) parts.0 (has_snapshot-push ds new site table parts.1 off)

-- a snapshot of a table that its site has none of is declared once with the others
pub once-push : (ds : List DeclaredSnapshot) (new : DeclaredSnapshot) → AreDeclaredOnce ds → has_snapshot ds new.site new.table ≡ false → AreDeclaredOnce (ds ++ new ∷ [])
once-push [] new once none = (refl, tt)
once-push (d ∷ ds) new once none =
    let parts = or_parts (is_snapshot_of new.site new.table d) (has_snapshot ds new.site new.table) none in
    (has_snapshot-push ds new d.site d.table once.0 (other_way new.site new.table d parts.0), once-push ds new once.1 parts.1)
