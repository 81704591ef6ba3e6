-- The masters that Setup's end makes: each has the rows that masters begin with, and there is a first master.
use Rattle.std.proofs.Common.{◌≡◌, List, [], ◌∷◌, get_or, map, Bool, true, false, cond, Some, None, refl, ap, ◌∙◌}
use Rattle.std.specs.Prelude.{Option, ◌&&◌, not, is_none, filter}
use Rattle.std.specs.List.{Any, AllByRecursion, find}
use Rattle.std.proofs.lemmas.List.{get_or_default}
use Rattle.std.proofs.lemmas.List.Folds.{Any-from_list_any}
use Rattle.std.proofs.lemmas.List.Elements.{recursion_from_All}
use Rattle.rep_values.specs.declared.name.SiteName.{SiteName}
use Rattle.rep_schema.specs.declared.schema.Schema.{Schema}
use Rattle.rep_schema.specs.declared.schema.SiteEntry.{SiteEntry}
use Rattle.rep_schema.specs.Shape.{is_master, is_early_master, HasShape}
use Rattle.rep_schema.specs.Tables.{Rows}
use Rattle.rep_schema.specs.Named.{is_site, site_named}
use Rattle.rep_schema.specs.Sites.{first_master, is_late_master}
use Rattle.schema_rules.proofs.SoundRules.{KeepsAllRules-unbroken}
use Rattle.rep_laws.specs.Commuting.{IsSound}
use Rattle.rep_values.specs.SiteNames.{is_same_site}
use Rattle.site_state.specs.State.{SiteState}
use Rattle.site_state.proofs.SchemaSites.{AreApart, are_apart, found_any, any_found, place_found}
use Rattle.site_events.specs.Cluster.{site_of}
use Rattle.event_laws.proofs.Sites.{found_all}
use Rattle.event_laws.proofs.Moves.{all_weaker}
use Rattle.world_state.specs.declared.declared_snapshot.DeclaredSnapshot.{DeclaredSnapshot}
use Rattle.world_state.specs.Making.{site_made, entry_made, is_early, sites_made}

abbrev IsFoundBy : {X : Type 0} → (X → Bool) → List X → Type 0
IsFoundBy {X} test xs = (x : X) × (find test xs ≡ Some x)

-- where one of a list passes a test, one is found by it
found_by : {X : Type 0} (test : X → Bool) (xs : List X) → AllByRecursion (λ x. test x ≡ true → IsFoundBy test xs) xs
found_by test [] = tt
found_by {X = X} test (x ∷ xs) = go (test x) refl (found_by test xs)
  where
    go : (b : Bool) → test x ≡ b → AllByRecursion (λ y. test y ≡ true → IsFoundBy test xs) xs
        → AllByRecursion (λ y. test y ≡ true → (z : X) × (cond b (Some x) (find test xs) ≡ Some z)) (x ∷ xs)
    go true is later = ((λ passes. (x, refl)), all_weaker (λ y. test y ≡ true → IsFoundBy test xs) (λ y. test y ≡ true → (z : X) × (Some x ≡ Some z)) xs (λ y some passes. (x, refl)) later)
    go false is later = ((λ passes. absurd (cc (passes, is))), later)

-- a master has the rows, and there is a first one
pub record BeginsWith (schema : Schema) (rows : List Rows) (x : SiteState) : Type 0 where
  pub base : x.base ≡ rows
  pub first : SiteEntry
  pub is_first : first_master schema ≡ Some first

module _ (schema : Schema) (shape : HasShape schema) (rows : List Rows) (snapshots : List DeclaredSnapshot) where
  each_found : AllByRecursion (λ (u : SiteEntry). site_named schema u.name ≡ Some u) schema.sites
  each_found = recursion_from_All (λ (u : SiteEntry). site_named schema u.name ≡ Some u) schema.sites
      (λ k d below. place_found schema.sites k (get_or schema.sites k d) (are_apart schema.sites shape.site_names) below (get_or_default schema.sites k (get_or schema.sites k d) d below))

  abbrev IfMaster : SiteState → Type 0
  IfMaster x = x.here.is_master ≡ true → BeginsWith schema rows x

  early_master : (u : SiteEntry) → site_named schema u.name ≡ Some u → is_early schema u ≡ true → is_master u ≡ true → is_early_master u ≡ true
  early_master u found early master = by u.late refl
    where
      by : (late : Bool) → u.late ≡ late → (is_master u && not late) ≡ true
      by false is = rw master refl
      by true is =
          let late : is_late_master schema u.name ≡ true = found_any (λ (e : SiteEntry). is_master e && e.late) u.name schema.sites u found (rw (master, is) refl) in
          let no : not (is_late_master schema u.name) ≡ false = rw late refl in
          absurd (cc (no, early))

  made : (u : SiteEntry) → (is_master u ≡ true → IsFoundBy is_early_master schema.sites) → IfMaster (entry_made schema rows snapshots u)
  made u first = at u.master refl
    where
      at : (master : Option SiteName) → u.master ≡ master → IfMaster (site_made schema rows snapshots u.name master)
      at None is masters = let f = first (ap is_none is) in record { base = refl; first = f.0; is_first = f.1 }
      at (Some master) is masters = absurd (cc masters)

  each_made : (es : List SiteEntry) → AllByRecursion (λ (u : SiteEntry). site_named schema u.name ≡ Some u) es
      → AllByRecursion (λ (u : SiteEntry). is_early_master u ≡ true → IsFoundBy is_early_master schema.sites) es
      → AllByRecursion IfMaster (map (entry_made schema rows snapshots) (filter (is_early schema) es))
  each_made [] found first = tt
  each_made (e ∷ es) found first = go (is_early schema e) refl (each_made es found.1 first.1)
    where
      go : (b : Bool) → is_early schema e ≡ b → AllByRecursion IfMaster (map (entry_made schema rows snapshots) (filter (is_early schema) es))
          → AllByRecursion IfMaster (map (entry_made schema rows snapshots) (cond b (e ∷ filter (is_early schema) es) (filter (is_early schema) es)))
      go true early later = (made e (λ master. first.0 (early_master e found.0 early master)), later)
      go false early later = later

  -- a master that is there begins with the rows
  pub begins_with : (site : SiteName) (x : SiteState) → site_of site (sites_made schema rows snapshots) ≡ Some x → x.here.is_master ≡ true → BeginsWith schema rows x
  begins_with site x found = found_all IfMaster site (sites_made schema rows snapshots) x (each_made schema.sites each_found (found_by is_early_master schema.sites)) found

-- ---- a master that is there

-- an entry of a master that is there from the start
pub record FirstMaster (schema : Schema) : Type 0 where
  pub entry : SiteEntry
  pub found : site_named schema entry.name ≡ Some entry
  pub master : is_none entry.master ≡ true
  pub early : is_early schema entry ≡ true

parts_of_early : (master late : Bool) → (master && not late) ≡ true → (master ≡ true) × ((master && late) ≡ false)
parts_of_early true true is = absurd (cc is)
parts_of_early true false is = (refl, refl)
parts_of_early false late is = absurd (cc is)

-- a sound schema has one
pub first_of : (schema : Schema) → IsSound schema → FirstMaster schema
first_of schema sound =
    let any : Any (λ (u : SiteEntry). is_early_master u ≡ true) schema.sites = Any-from_list_any is_early_master schema.sites ((KeepsAllRules-unbroken schema).1 sound.unbroken).mastered in
    let found : site_named schema any.1.name ≡ Some any.1 = place_found schema.sites any.0 any.1 apart any.2 any.3 in
    let parts = parts_of_early (is_master any.1) any.1.late any.4 in
    record { entry = any.1; found = found; master = parts.0; early = early any.1 found parts.1 }
  where
    apart : AreApart schema.sites
    apart = are_apart schema.sites sound.shape.site_names

    early : (u : SiteEntry) → site_named schema u.name ≡ Some u → (is_master u && u.late) ≡ false → is_early schema u ≡ true
    early u found off = by (is_late_master schema u.name) refl
      where
        by : (b : Bool) → is_late_master schema u.name ≡ b → not b ≡ true
        by false is = refl
        by true is = let late : (is_master u && u.late) ≡ true = any_found (λ (e : SiteEntry). is_master e && e.late) u.name schema.sites u apart found is in absurd (cc (late, off))

module _ (schema : Schema) (rows : List Rows) (snapshots : List DeclaredSnapshot) where
  made_name : (site : SiteName) (master : Option SiteName) → (site_made schema rows snapshots site master).here.site ≡ site
  made_name site None = refl
  made_name site (Some master) = refl

  -- an entry that is found by its name makes the site of this name
  entry_is_made : (es : List SiteEntry) (u : SiteEntry) → find (is_site u.name) es ≡ Some u → is_early schema u ≡ true
      → site_of u.name (map (entry_made schema rows snapshots) (filter (is_early schema) es)) ≡ Some (entry_made schema rows snapshots u)
  entry_is_made [] u found early = absurd (cc found)
  entry_is_made (e ∷ es) u found early = go (is_site u.name e) refl (is_early schema e) refl found (entry_is_made es u)
    where
      rest : List SiteState
      rest = map (entry_made schema rows snapshots) (filter (is_early schema) es)

      head : (b : Bool) → is_site u.name e ≡ b → site_of u.name (entry_made schema rows snapshots e ∷ rest) ≡ cond b (Some (entry_made schema rows snapshots e)) (site_of u.name rest)
      head b is = ap (λ (c : Bool). cond c (Some (entry_made schema rows snapshots e)) (site_of u.name rest)) (ap (λ (n : SiteName). is_same_site n u.name) (made_name e.name e.master) ∙ is)

      go : (b : Bool) → is_site u.name e ≡ b → (c : Bool) → is_early schema e ≡ c → cond b (Some e) (find (is_site u.name) es) ≡ Some u
          → (find (is_site u.name) es ≡ Some u → is_early schema u ≡ true → site_of u.name rest ≡ Some (entry_made schema rows snapshots u))
          → site_of u.name (map (entry_made schema rows snapshots) (cond c (e ∷ filter (is_early schema) es) (filter (is_early schema) es))) ≡ Some (entry_made schema rows snapshots u)
      go true is true is_c found later = let same : e ≡ u = cc found in head true is ∙ ap (λ (v : SiteEntry). Some (entry_made schema rows snapshots v)) same
      go true is false is_c found later = let same : e ≡ u = cc found in absurd (cc (ap (is_early schema) same, is_c, early))
      go false is true is_c found later = head false is ∙ later found early
      go false is false is_c found later = later found early

  pub made_entry : (first : FirstMaster schema) → site_of first.entry.name (sites_made schema rows snapshots) ≡ Some (entry_made schema rows snapshots first.entry)
  made_entry first = entry_is_made schema.sites first.entry first.found first.early
