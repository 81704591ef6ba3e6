-- A site more, or the level of a site, keeps the shape of a schema.
use Rattle.std.proofs.Common.{◌≡◌, ◌≢◌, ◌+◌, ◌<◌, ◌≤◌, ℤ, Bool, true, false, List, [], ◌∷◌, ◌++◌, Option, Some, None, refl, ap, ◌∙◌, arith}
use Rattle.std.specs.Prelude.{IfSome, Any, ◌&&◌}
use Rattle.std.specs.List.{All, count_by}
use Rattle.std.proofs.lemmas.Bool.{and_parts, not-false}
use Rattle.std.proofs.lemmas.List.{get_or_append_left, length-append}
use Rattle.std.proofs.lemmas.List.Elements.{All-push, All-weaker}
use Rattle.std.proofs.lemmas.List.Folds.{Any-from_list_any}
use Rattle.std.proofs.lemmas.List.Sums.{sum_by_push}
use Rattle.rep_values.specs.declared.name.SiteName.{SiteName}
use Rattle.rep_values.specs.declared.refusal.Refusal.TheVariants as refusal
use Rattle.rep_values.specs.declared.refusal.Limit.TheVariants as limit
use Rattle.rep_values.specs.Name.{same_bytes}
use Rattle.rep_schema.specs.declared.schema.Schema.{Schema}
use Rattle.rep_schema.specs.declared.schema.SiteEntry.{SiteEntry}
use Rattle.rep_schema.specs.Limits.{most_masters, most_snapshots}
use Rattle.rep_schema.specs.Shape.{HasShape, HasMaster, is_master, is_early_master, is_snapshot}
use Rattle.rep_schema.specs.Entries.{snapshot_site}
use Rattle.rep_declare.specs.declared.declaration.Declare.TheVariants as declare
use Rattle.rep_schema.specs.Named.{is_site, site_named, has_master}
use Rattle.rep_declare.specs.Refusals.{declare_refusal}
use Rattle.rep_declare.specs.Additions.{with_changed, with_sites, with_site_level, declared}
use Rattle.rep_values.proofs.RefusalSteps.{or_then-None, refused-None, full-None, taken-None}
use Rattle.rep_declare.proofs.ListNames.{same_bytes-true, same_bytes-false, find-None, AreDistinct-push, count_by-with_changed, All-with_changed, AreDistinct-with_changed, Any-with_changed}

-- sites of one name have the same name
site_name-true : (a b : SiteName) → same_bytes a.0 b.0 ≡ true → a ≡ b
site_name-true a b is = ap (λ bytes. record { 0 = bytes }) (same_bytes-true a.0 b.0 is)

-- a master site that is there stays there
Any-push_more : {X : Type 0} (P : X → Type 0) (xs : List X) (x : X) → Any P xs → Any P (xs ++ x ∷ [])
Any-push_more P xs x (k, y, within, is, holds) =
    (k, y, omega (arith, within, length-append xs (x ∷ [])), get_or_append_left xs (x ∷ []) y k within ∙ is, holds)

HasMaster-push : (sites : List SiteEntry) (added site : SiteEntry) → HasMaster sites site → HasMaster (sites ++ added ∷ []) site
HasMaster-push sites added site has = at site.master has
  where
    at : (master : Option SiteName) → IfSome master (λ name. Any (λ s. (s.name ≡ name) × (is_early_master s ≡ true)) sites)
        → IfSome master (λ name. Any (λ s. (s.name ≡ name) × (is_early_master s ≡ true)) (sites ++ added ∷ []))
    at None has = tt
    at (Some name) has = Any-push_more (λ s. (s.name ≡ name) × (is_early_master s ≡ true)) sites added has

-- a site more, whose name no other has and whose master is there
one_more_site : (schema : Schema) (site : SiteEntry) → HasShape schema → site_named schema site.name ≡ None
    → count_by is_master (schema.sites ++ site ∷ []) ≤ most_masters → count_by is_snapshot (schema.sites ++ site ∷ []) ≤ most_snapshots
    → HasMaster schema.sites site → HasShape (with_sites (schema.sites ++ site ∷ []) schema)
one_more_site schema site shape new masters snapshots has = record {
  masters = masters;
  snapshots = snapshots;
  site_names = AreDistinct-push (λ s. s.name) schema.sites site shape.site_names
      (All-weaker (λ s. is_site site.name s ≡ false) (λ s. s.name ≢ site.name) (λ s other same. same_bytes-false _ _ other (ap (λ n. n.0) same)) schema.sites
      (find-None (is_site site.name) schema.sites new));
  site_masters = All-push (HasMaster (schema.sites ++ site ∷ [])) schema.sites site
      (All-weaker (HasMaster schema.sites) (HasMaster (schema.sites ++ site ∷ [])) (HasMaster-push schema.sites site) schema.sites shape.site_masters)
      (HasMaster-push schema.sites site site has);
  tables = shape.tables;
  table_number = shape.table_number;
  table_names = shape.table_names;
  priorities = shape.priorities;
  priority_names = shape.priority_names;
}

-- a master site, there from the start or late
abbrev master_entry : SiteName → Bool → SiteEntry
master_entry name late = record { name = name; master = None; level = None; late = late }

one_more_master : (schema : Schema) (name : SiteName) (late : Bool) → HasShape schema → declare_refusal schema (declare.Site name) ≡ None
    → HasShape (with_sites (schema.sites ++ master_entry name late ∷ []) schema)
one_more_master schema name late shape passed =
    let site : SiteEntry = master_entry name late in
    let steps = or_then-None _ _ passed in
    let room : count_by is_master schema.sites < most_masters = full-None _ _ limit.Masters (or_then-None _ _ steps.1).0 in
    let masters : count_by is_master (schema.sites ++ site ∷ []) ≡ count_by is_master schema.sites + 1 = sum_by_push _ schema.sites site in
    let snapshots : count_by is_snapshot (schema.sites ++ site ∷ []) ≡ count_by is_snapshot schema.sites + 0 = sum_by_push _ schema.sites site in
    one_more_site schema site shape (taken-None _ steps.0) (omega (arith, room, masters)) (omega (arith, snapshots, shape.snapshots)) tt

-- with a master site that isn't refused
pub HasShape-Site : (schema : Schema) (name : SiteName) → HasShape schema → declare_refusal schema (declare.Site name) ≡ None → HasShape (declared (declare.Site name) schema)
HasShape-Site schema name shape passed = one_more_master schema name false shape passed

-- with a late master that isn't refused
pub HasShape-LateSite : (schema : Schema) (name : SiteName) → HasShape schema → declare_refusal schema (declare.LateSite name) ≡ None
    → HasShape (declared (declare.LateSite name) schema)
HasShape-LateSite schema name shape passed = one_more_master schema name true shape passed

-- with a snapshot site that isn't refused
pub HasShape-SnapSite : (schema : Schema) (name master : SiteName) → HasShape schema → declare_refusal schema (declare.SnapSite name master) ≡ None
    → HasShape (declared (declare.SnapSite name master) schema)
HasShape-SnapSite schema name master shape passed =
    let site : SiteEntry = snapshot_site name master in
    let steps = or_then-None _ _ passed in
    let later = or_then-None _ _ steps.1 in
    let there : has_master schema master ≡ true = not-false _ (refused-None _ refusal.UnknownName later.0) in
    let room : count_by is_snapshot schema.sites < most_snapshots = full-None _ _ limit.Snapshots (or_then-None _ _ later.1).0 in
    let masters : count_by is_master (schema.sites ++ site ∷ []) ≡ count_by is_master schema.sites + 0 = sum_by_push _ schema.sites site in
    let snapshots : count_by is_snapshot (schema.sites ++ site ∷ []) ≡ count_by is_snapshot schema.sites + 1 = sum_by_push _ schema.sites site in
    one_more_site schema site shape (taken-None _ steps.0) (omega (arith, masters, shape.masters)) (omega (arith, room, snapshots))
    (found (Any-from_list_any (λ s. is_site master s && is_early_master s) schema.sites there))
  where
    found : Any (λ s. (is_site master s && is_early_master s) ≡ true) schema.sites → Any (λ s. (s.name ≡ master) × (is_early_master s ≡ true)) schema.sites
    found (k, s, within, is, passes) =
        let both = and_parts (is_site master s) (is_early_master s) passes in
        (k, s, within, is, (site_name-true s.name master both.0, both.1))

-- a site keeps its master with a level
HasMaster-with_changed : (test : SiteEntry → Bool) (level : ℤ) (sites : List SiteEntry) (site : SiteEntry) → HasMaster sites site
    → HasMaster (with_changed test (with_site_level level) sites) site
HasMaster-with_changed test level sites site has = at site.master has
  where
    at : (master : Option SiteName) → IfSome master (λ name. Any (λ s. (s.name ≡ name) × (is_early_master s ≡ true)) sites)
        → IfSome master (λ name. Any (λ s. (s.name ≡ name) × (is_early_master s ≡ true)) (with_changed test (with_site_level level) sites))
    at None has = tt
    at (Some name) has = Any-with_changed test (with_site_level level) (λ s. (s.name ≡ name) × (is_early_master s ≡ true)) (λ s holds. holds) sites has

-- with the level of a site
pub HasShape-SiteLevel : (schema : Schema) (site : SiteName) (level : ℤ) → HasShape schema → HasShape (declared (declare.SiteLevel site level) schema)
HasShape-SiteLevel schema site level shape =
    let leveled : SiteEntry → SiteEntry = with_site_level level in
    let sites : List SiteEntry = with_changed (is_site site) leveled schema.sites in
    let kept : All (HasMaster sites) schema.sites =
    All-weaker (HasMaster schema.sites) (HasMaster sites) (HasMaster-with_changed (is_site site) level schema.sites) schema.sites shape.site_masters in
    record {
      masters = rw (count_by-with_changed (is_site site) leveled is_master (λ s. refl) schema.sites) shape.masters;
      snapshots = rw (count_by-with_changed (is_site site) leveled is_snapshot (λ s. refl) schema.sites) shape.snapshots;
      site_names = AreDistinct-with_changed (is_site site) leveled (λ s. s.name) (λ s. refl) schema.sites shape.site_names;
      site_masters = All-with_changed (is_site site) leveled (HasMaster sites) schema.sites kept (λ s found has. has);
      tables = shape.tables;
      table_number = shape.table_number;
      table_names = shape.table_names;
      priorities = shape.priorities;
      priority_names = shape.priority_names;
    }
