-- The sites that are there from the start: each of their entries is the one of its name, and tells whether it is a master.
use Rattle.std.proofs.Common.{◌≡◌, ◌<◌, ℕ, zero, suc, Bool, true, false, List, [], ◌∷◌, map, get_or, length, cond, Some, None, refl, sym, ap, ◌∙◌, arith, subst}
use Rattle.std.specs.Prelude.{filter}
use Rattle.std.specs.List.{AllByRecursion}
use Rattle.std.proofs.lemmas.List.{get_or_default}
use Rattle.std.proofs.lemmas.List.Elements.{recursion_from_All}
use Rattle.rep_values.specs.declared.name.SiteName.{SiteName}
use Rattle.rep_schema.specs.declared.schema.Schema.{Schema}
use Rattle.rep_schema.specs.declared.schema.SiteEntry.{SiteEntry}
use Rattle.rep_schema.specs.Shape.{is_master, HasShape}
use Rattle.rep_schema.specs.Tables.{Rows}
use Rattle.rep_schema.specs.Named.{site_named}
use Rattle.rep_values.specs.SiteNames.{is_same_site}
use Rattle.rep_schema.specs.Sites.{is_master_site}
use Rattle.site_state.specs.Fits.{AreWithin}
use Rattle.site_state.proofs.SchemaSites.{are_apart, found_any, any_found, place_found}
use Rattle.world_state.specs.declared.declared_snapshot.DeclaredSnapshot.{DeclaredSnapshot}
use Rattle.world_state.specs.Making.{snapshots_at, entry_made, is_early, sites_made}
use Rattle.site_making.specs.Entries.{IsEntryOf}

-- ---- lists

-- what holds of all values holds of the one at a place
pub of_place : {X : Type 0} (P : X → Type 0) (xs : List X) (i : ℕ) (x : X) → AllByRecursion P xs → i < length xs → x ≡ get_or xs i x → P x
of_place P [] i x all within is = absurd (omega (arith, within))
of_place P (y ∷ ys) zero x all within is = subst P (sym is) all.0
of_place P (y ∷ ys) (suc i) x all within is = of_place P ys i x all.1 (omega (arith, within)) is

-- and of those that pass a test
all_filtered : {X : Type 0} (P : X → Type 0) (test : X → Bool) (xs : List X) → AllByRecursion P xs → AllByRecursion P (filter test xs)
all_filtered P test [] all = tt
all_filtered P test (x ∷ xs) all = go (test x) (all_filtered P test xs all.1)
  where
    go : (b : Bool) → AllByRecursion P (filter test xs) → AllByRecursion P (cond b (x ∷ filter test xs) (filter test xs))
    go true later = (all.0, later)
    go false later = later

-- ---- entries

-- each entry is the one of its name
each_found : (schema : Schema) → HasShape schema → AllByRecursion (IsEntryOf schema) schema.sites
each_found schema shape = recursion_from_All (λ (u : SiteEntry). site_named schema u.name ≡ Some u) schema.sites
    (λ k d below. place_found schema.sites k (get_or schema.sites k d) (are_apart schema.sites shape.site_names) below (get_or_default schema.sites k (get_or schema.sites k d) d below))

-- so is each of those that are there from the start
early_found : (schema : Schema) → HasShape schema → AllByRecursion (IsEntryOf schema) (filter (is_early schema) schema.sites)
early_found schema shape = all_filtered (IsEntryOf schema) (is_early schema) schema.sites (each_found schema shape)

module _ (schema seen : Schema) (entries early kept : List SiteEntry) (seen_is : seen ≡ schema) (entries_are : entries ≡ seen.sites) (early_are : early ≡ filter (is_early seen) entries) (kept_are : kept ≡ early) where
  -- those that were kept of the entries that were seen
  kept_early : kept ≡ filter (is_early schema) schema.sites
  kept_early = kept_are ∙ early_are ∙ ap (filter (is_early seen)) entries_are ∙ ap (λ (s : Schema). filter (is_early s) s.sites) seen_is

  -- are entries of the schema
  pub kept_found : HasShape schema → AllByRecursion (IsEntryOf schema) kept
  kept_found shape = subst (AllByRecursion (IsEntryOf schema)) (sym kept_early) (early_found schema shape)

  -- and their sites are those that are made
  pub kept_made : (rows : List Rows) (snapshots : List DeclaredSnapshot) → map (entry_made schema rows snapshots) kept ≡ sites_made schema rows snapshots
  kept_made rows snapshots = ap (map (entry_made schema rows snapshots)) kept_early

-- the sites that are made are those of an equal schema with equal rows
pub same_sites : (schema filled : Schema) (rows filled_rows : List Rows) (snapshots : List DeclaredSnapshot) → filled ≡ schema → filled_rows ≡ rows
    → sites_made filled filled_rows snapshots ≡ sites_made schema rows snapshots
same_sites schema filled rows filled_rows snapshots same_schema same_rows =
    ap (λ (s : Schema). sites_made s filled_rows snapshots) same_schema ∙ ap (λ (rs : List Rows). sites_made schema rs snapshots) same_rows

-- ---- whether a site is a master

-- an entry tells whether the site of its name is
pub is_master_site-entry : (schema : Schema) (e : SiteEntry) → HasShape schema → IsEntryOf schema e → is_master_site schema e.name ≡ is_master e
is_master_site-entry schema e shape found = go (is_master e) refl (is_master_site schema e.name) refl
  where
    go : (b : Bool) → is_master e ≡ b → (c : Bool) → is_master_site schema e.name ≡ c → c ≡ b
    go true own c is = sym is ∙ found_any is_master e.name schema.sites e found own
    go false own true is = sym (any_found is_master e.name schema.sites e (are_apart schema.sites shape.site_names) found is) ∙ own
    go false own false is = refl

-- ---- snapshots

-- those of a site are of the schema's tables where all are
pub AreWithin-snapshots_at : (schema : Schema) (site : SiteName) (snapshots : List DeclaredSnapshot) → AllByRecursion (λ (s : DeclaredSnapshot). s.table < length schema.tables) snapshots
    → AreWithin schema (snapshots_at snapshots site)
AreWithin-snapshots_at schema site [] all = tt
AreWithin-snapshots_at schema site (s ∷ ss) all = go (is_same_site s.site site) (AreWithin-snapshots_at schema site ss all.1)
  where
    go : (b : Bool) → AreWithin schema (snapshots_at ss site)
        → AreWithin schema (map (λ (s : DeclaredSnapshot). record { table = s.table; query = s.query; parent = s.parent; mark = 0; touched = [] }) (cond b (s ∷ filter (λ (t : DeclaredSnapshot). is_same_site t.site site) ss) (filter (λ (t : DeclaredSnapshot). is_same_site t.site site) ss)))
    go true later = (all.0, later)
    go false later = later
