-- The entries of a schema's sites, and the sites that are made of them.
use Rattle.std.proofs.Common.{◌≡◌, List, [], ◌∷◌, get_or, map, Bool, true, false, cond, Some, None, refl, sym, ap, ◌∙◌}
use Rattle.std.specs.Prelude.{◌≢◌, ◌&&◌, not, is_none, filter, Option}
use Rattle.std.specs.List.{Any, find, list_any, AllByRecursion}
use Rattle.std.specs.Option.{option_and_then}
use Rattle.std.proofs.lemmas.Bool.{or_left, or_right}
use Rattle.std.proofs.lemmas.List.{get_or_default}
use Rattle.std.proofs.lemmas.List.Elements.{recursion_from_All}
use Rattle.rep_values.specs.declared.name.SiteName.{SiteName}
use Rattle.rep_schema.specs.declared.schema.Schema.{Schema}
use Rattle.rep_schema.specs.declared.schema.SiteEntry.{SiteEntry}
use Rattle.rep_schema.specs.Shape.{is_master, is_early_master, HasMaster, HasShape}
use Rattle.rep_schema.specs.Tables.{Rows}
use Rattle.rep_schema.specs.Named.{is_site, site_named}
use Rattle.rep_values.specs.SiteNames.{is_same_site}
use Rattle.deferred_queue.proofs.Sites.{is_same_site-true}
use Rattle.site_state.specs.State.{SiteState}
use Rattle.rep_schema.specs.Sites.{is_master_site, is_late_master}
use Rattle.site_state.proofs.SchemaSites.{AreApart, are_apart, find_holds, any_found, place_found}
use Rattle.site_events.specs.Cluster.{site_of}
use Rattle.site_events.specs.Events.{master_of}
use Rattle.world_state.specs.declared.declared_snapshot.DeclaredSnapshot.{DeclaredSnapshot}
use Rattle.world_state.specs.Making.{site_made, entry_made, is_early}

-- some entry that is found passes a test
pub any_found_passes : (of test : SiteEntry → Bool) (es : List SiteEntry) (e : SiteEntry) → find of es ≡ Some e → test e ≡ true → list_any test es ≡ true
any_found_passes of test [] e found passes = absurd (cc found)
any_found_passes of test (u ∷ us) e found passes = go (of u) (any_found_passes of test us e) found
  where
    go : (b : Bool) → (find of us ≡ Some e → test e ≡ true → list_any test us ≡ true) → cond b (Some u) (find of us) ≡ Some e → list_any test (u ∷ us) ≡ true
    go true later found = let same : u ≡ e = cc found in or_left (test u) (list_any test us) (rw same passes)
    go false later found = or_right (test u) (list_any test us) (later found passes)

-- an entry that is found by a name has it
find_name : (name : SiteName) (es : List SiteEntry) (e : SiteEntry) → find (is_site name) es ≡ Some e → e.name ≡ name
find_name name [] e found = absurd (cc found)
find_name name (u ∷ us) e found = go (is_site name u) refl (find_name name us e) found
  where
    go : (b : Bool) → is_site name u ≡ b → (find (is_site name) us ≡ Some e → e.name ≡ name) → cond b (Some u) (find (is_site name) us) ≡ Some e → e.name ≡ name
    go true is later found = let same : u ≡ e = cc found in ap (λ (v : SiteEntry). v.name) (sym same) ∙ is_same_site-true u.name name is
    go false is later found = later found

module _ (schema : Schema) (shape : HasShape schema) where
  apart : AreApart schema.sites
  apart = are_apart schema.sites shape.site_names

  -- each entry is the one that is found by its name
  pub each_found : AllByRecursion (λ (u : SiteEntry). site_named schema u.name ≡ Some u) schema.sites
  each_found = recursion_from_All (λ (u : SiteEntry). site_named schema u.name ≡ Some u) schema.sites
      (λ k d below. place_found schema.sites k (get_or schema.sites k d) apart below (get_or_default schema.sites k (get_or schema.sites k d) d below))

  -- the master of a site is a master that is there from the start
  pub record IsFoundMaster (master : SiteName) : Type 0 where
    pub entry : SiteEntry
    pub found : site_named schema master ≡ Some entry
    pub named : entry.name ≡ master
    pub none : entry.master ≡ None
    pub early : is_late_master schema master ≡ false

  pub record HasEntry (site master : SiteName) : Type 0 where
    pub entry : SiteEntry
    pub found : site_named schema site ≡ Some entry
    pub named : entry.name ≡ site
    pub is : entry.master ≡ Some master

  pub entry_of : (site master : SiteName) → master_of schema site ≡ Some master → HasEntry site master
  entry_of site master of_site = go (site_named schema site) refl of_site
    where
      go : (o : Option SiteEntry) → site_named schema site ≡ o → option_and_then (λ (entry : SiteEntry). entry.master) o ≡ Some master → HasEntry site master
      go None found is = absurd (cc is)
      go (Some e) found is = record { entry = e; found = found; named = find_name site schema.sites e found; is = is }

  early_parts : (m : Option SiteName) (late : Bool) → (is_none m && not late) ≡ true → (m ≡ None) × ((is_none m && late) ≡ false)
  early_parts None true is = absurd (cc is)
  early_parts None false is = (refl, refl)
  early_parts (Some n) late is = absurd (cc is)

  not_late : (master : SiteName) (u : SiteEntry) → site_named schema master ≡ Some u → (is_master u && u.late) ≡ false → is_late_master schema master ≡ false
  not_late master u found off = by (is_late_master schema master) refl
    where
      by : (b : Bool) → is_late_master schema master ≡ b → b ≡ false
      by false is = refl
      by true is = let late : (is_master u && u.late) ≡ true = any_found (λ (e : SiteEntry). is_master e && e.late) master schema.sites u apart found is in absurd (cc (late, off))

  pub master_found : (site master : SiteName) → master_of schema site ≡ Some master → IsFoundMaster master
  master_found site master of_site =
      let of_e = entry_of site master of_site in
      let has : HasMaster schema.sites of_e.entry = find_holds (HasMaster schema.sites) (is_site site) schema.sites of_e.entry (recursion_from_All (HasMaster schema.sites) schema.sites shape.site_masters) of_e.found in
      let any : Any (λ (s : SiteEntry). (s.name ≡ master) × (is_early_master s ≡ true)) schema.sites = rw of_e.is at has in
      let there : site_named schema master ≡ Some any.1 = ap (site_named schema) (sym any.4.0) ∙ place_found schema.sites any.0 any.1 apart any.2 any.3 in
      let parts = early_parts any.1.master any.1.late any.4.1 in
      record { entry = any.1; found = there; named = any.4.0; none = parts.0; early = not_late master any.1 there parts.1 }

  -- a site with a master isn't a master
  pub no_master : (site master : SiteName) → master_of schema site ≡ Some master → is_master_site schema site ≡ false
  no_master site master of_site = by (is_master_site schema site) refl
    where
      of_e : HasEntry site master
      of_e = entry_of site master of_site

      by : (b : Bool) → is_master_site schema site ≡ b → b ≡ false
      by false is = refl
      by true is =
          let none : is_none of_e.entry.master ≡ true = any_found is_master site schema.sites of_e.entry apart of_e.found is in
          let some : is_none (Some master) ≡ true = rw of_e.is at none in
          absurd (cc some)

  -- nor its own
  pub another : (site master : SiteName) → master_of schema site ≡ Some master → site ≢ master
  another site master of_site same =
      let m = master_found site master of_site in
      let none : master_of schema master ≡ None = ap (option_and_then (λ (entry : SiteEntry). entry.master)) m.found ∙ m.none in
      let some : master_of schema master ≡ Some master = ap (master_of schema) (sym same) ∙ of_site in
      absurd (cc (none, some))

-- ---- the site that an entry makes

made_site : (schema : Schema) (rows : List Rows) (snapshots : List DeclaredSnapshot) (site : SiteName) (master : Option SiteName) → (site_made schema rows snapshots site master).here.site ≡ site
made_site schema rows snapshots site None = refl
made_site schema rows snapshots site (Some master) = refl

-- is there under the entry's name
pub made_found : (schema : Schema) (rows : List Rows) (snapshots : List DeclaredSnapshot) (es : List SiteEntry) (name : SiteName) (u : SiteEntry) → find (is_site name) es ≡ Some u → is_early schema u ≡ true
    → site_of name (map (entry_made schema rows snapshots) (filter (is_early schema) es)) ≡ Some (entry_made schema rows snapshots u)
made_found schema rows snapshots [] name u found early = absurd (cc found)
made_found schema rows snapshots (e ∷ es) name u found early = go (is_site name e) refl (is_early schema e) refl found (made_found schema rows snapshots es name u)
  where
    rest : List SiteState
    rest = map (entry_made schema rows snapshots) (filter (is_early schema) es)

    named : is_same_site (entry_made schema rows snapshots e).here.site name ≡ is_site name e
    named = ap (λ (n : SiteName). is_same_site n name) (made_site schema rows snapshots e.name e.master)

    by : (b : Bool) → is_site name e ≡ b → cond b (Some (entry_made schema rows snapshots e)) (site_of name rest) ≡ Some (entry_made schema rows snapshots u)
        → cond (is_same_site (entry_made schema rows snapshots e).here.site name) (Some (entry_made schema rows snapshots e)) (site_of name rest) ≡ Some (entry_made schema rows snapshots u)
    by b is found = ap (λ (c : Bool). cond c (Some (entry_made schema rows snapshots e)) (site_of name rest)) (named ∙ is) ∙ found

    go : (b : Bool) → is_site name e ≡ b → (c : Bool) → is_early schema e ≡ c → cond b (Some e) (find (is_site name) es) ≡ Some u
        → (find (is_site name) es ≡ Some u → is_early schema u ≡ true → site_of name rest ≡ Some (entry_made schema rows snapshots u))
        → site_of name (map (entry_made schema rows snapshots) (cond c (e ∷ filter (is_early schema) es) (filter (is_early schema) es))) ≡ Some (entry_made schema rows snapshots u)
    go true is true is_c found later = let same : e ≡ u = cc found in by true is (ap (λ (v : SiteEntry). Some (entry_made schema rows snapshots v)) same)
    go true is false is_c found later = let same : e ≡ u = cc found in absurd (cc (ap (is_early schema) same, is_c, early))
    go false is true is_c found later = by false is (later found early)
    go false is false is_c found later = later found early
