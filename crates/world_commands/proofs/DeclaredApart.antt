-- What Setup has declared when it ends: snapshots of the schema's tables, at most one of a table at each site.
use Rattle.std.proofs.Common.{◌≡◌, ◌≢◌, ℕ, ◌==◌, List, [], ◌∷◌, map, Bool, true, false, cond, refl, subst}
use Rattle.std.specs.Prelude.{filter}
use Rattle.std.specs.List.{AllByRecursion}
use Rattle.std.proofs.lemmas.Bool.{or_parts}
use Rattle.rep_values.specs.declared.name.SiteName.{SiteName}
use Rattle.rep_values.specs.SiteNames.{is_same_site}
use Rattle.deferred_queue.proofs.Sites.{is_same_site-true, eq_true}
use Rattle.snapshot_query.specs.declared.snapshot.Snapshot.{Snapshot}
use Rattle.site_state.specs.Fits.{SnapshotsApart}
use Rattle.world_state.specs.declared.declared_snapshot.DeclaredSnapshot.{DeclaredSnapshot}
use Rattle.world_state.specs.World.{WorldState}
use Rattle.world_state.specs.Phases.{is_setup}
use Rattle.world_state.specs.Declaring.{is_snapshot_of, has_snapshot}
use Rattle.world_state.specs.Making.{snapshots_at}
use Rattle.world_laws.specs.WellDeclared.{AreDeclaredOnce}
use Rattle.world_laws.specs.SnapshotWorlds.{DeclaresSoFar}
use Rattle.world_laws.specs.AlikeWorlds.{IsOfConvergence, Declaring, Going}

-- a declared snapshot as its site has it
abbrev as_made : DeclaredSnapshot → Snapshot
as_made d = record { table = d.table; query = d.query; parent = d.parent; mark = 0; touched = [] }

abbrev is_at : SiteName → DeclaredSnapshot → Bool
is_at site d = is_same_site d.site site

-- where none is declared of a table, none is of it
none_of : (ds : List DeclaredSnapshot) (site : SiteName) (table : ℕ) → has_snapshot ds site table ≡ false → AllByRecursion (λ (s : Snapshot). s.table ≢ table) (snapshots_at ds site)
none_of [] site table none = tt
none_of (d ∷ ds) site table none = go (is_same_site d.site site) refl (none_of ds site table parts.1)
  where
    parts : (is_snapshot_of site table d ≡ false) × (has_snapshot ds site table ≡ false)
    parts = or_parts (is_snapshot_of site table d) (has_snapshot ds site table) none

    other : is_same_site d.site site ≡ true → d.table ≢ table
    other is same =
        let off : (d.table == table) ≡ false = rw is at parts.0 in
        let on : (d.table == table) ≡ true = eq_true d.table table same in
        absurd (cc (off, on))

    go : (b : Bool) → is_same_site d.site site ≡ b → AllByRecursion (λ (s : Snapshot). s.table ≢ table) (snapshots_at ds site)
        → AllByRecursion (λ (s : Snapshot). s.table ≢ table) (map as_made (cond b (d ∷ filter (is_at site) ds) (filter (is_at site) ds)))
    go true is later = (other is, later)
    go false is later = later

-- no table has two of them
apart_at : (ds : List DeclaredSnapshot) (site : SiteName) → AreDeclaredOnce ds → SnapshotsApart (snapshots_at ds site)
apart_at [] site once = tt
apart_at (d ∷ ds) site once = go (is_same_site d.site site) refl (apart_at ds site once.1)
  where
    go : (b : Bool) → is_same_site d.site site ≡ b → SnapshotsApart (snapshots_at ds site) → SnapshotsApart (map as_made (cond b (d ∷ filter (is_at site) ds) (filter (is_at site) ds)))
    go true is later = (none_of ds site d.table (subst (λ (n : SiteName). has_snapshot ds n d.table ≡ false) (is_same_site-true d.site site is) once.0), later)
    go false is later = later

pub declared_so_far : (w : WorldState) → IsOfConvergence w → is_setup w.phase ≡ true → DeclaresSoFar w
declared_so_far w (Declaring so_far) setup = so_far
declared_so_far w (Going a) setup = absurd (cc (setup, a.leads.simulates.behind))

pub declared_apart : (w : WorldState) → IsOfConvergence w → is_setup w.phase ≡ true → (site : SiteName) → SnapshotsApart (snapshots_at w.snapshots site)
declared_apart w is setup site = apart_at w.snapshots site (declared_so_far w is setup).once
