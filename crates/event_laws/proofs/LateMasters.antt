-- A late master gets from masters alone: it is the master of no snapshot site.
use Rattle.std.proofs.Common.{◌≡◌, ◌≢◌, Bool, true, false, Some, None, refl, sym, ◌∙◌, subst}
use Rattle.std.specs.Prelude.{◌&&◌, not, Option}
use Rattle.std.specs.List.{Any}
use Rattle.std.proofs.lemmas.List.Elements.{recursion_from_All}
use Rattle.rep_values.specs.declared.name.SiteName.{SiteName}
use Rattle.rep_schema.specs.declared.schema.Schema.{Schema}
use Rattle.rep_schema.specs.declared.schema.SiteEntry.{SiteEntry}
use Rattle.rep_schema.specs.Shape.{is_master, is_early_master, HasMaster, HasShape}
use Rattle.rep_schema.specs.Named.{is_site, site_named}
use Rattle.rep_schema.specs.Sites.{addresses, is_master_site, is_late_master}
use Rattle.deferred_queue.proofs.Sites.{is_same_site-true}
use Rattle.site_state.specs.State.{SiteState, opened_of}
use Rattle.site_state.specs.DeclaredSites.{IsDeclared}
use Rattle.site_state.proofs.SchemaSites.{AreApart, are_apart, find_holds, found_any, any_found, place_found}
use Rattle.event_laws.proofs.LinkedSites.{SentTo, sent_to}

second : (b c : Bool) → (b && c) ≡ true → c ≡ true
second true c is = is
second false c is = cc

not_late : (master late : Bool) → (master && late) ≡ true → (master && not late) ≡ true → ⊥
not_late true true is early = absurd (cc early)
not_late true false is early = absurd (cc is)
not_late false late is early = absurd (cc is)

module _ (schema : Schema) (shape : HasShape schema) (site : SiteName) (late : is_late_master schema site ≡ true) where
  apart : AreApart schema.sites
  apart = are_apart schema.sites shape.site_names

  -- a snapshot site's master is there from the start
  no_master_is_late : (name : SiteName) (from : SiteEntry) (m : SiteName) → site_named schema name ≡ Some from → from.master ≡ Some m → m ≡ site → ⊥
  no_master_is_late name from m found is same =
      let has : HasMaster schema.sites from = find_holds (HasMaster schema.sites) (is_site name) schema.sites from (recursion_from_All (HasMaster schema.sites) schema.sites shape.site_masters) found in
      let any : Any (λ (e : SiteEntry). (e.name ≡ m) × (is_early_master e ≡ true)) schema.sites = rw is at has in
      let there : site_named schema any.1.name ≡ Some any.1 = place_found schema.sites any.0 any.1 apart any.2 any.3 in
      let late_there : is_late_master schema any.1.name ≡ true = subst (λ (n : SiteName). is_late_master schema n ≡ true) (sym (any.4.0 ∙ same)) late in
      not_late (is_master any.1) any.1.late (any_found (λ e. is_master e && e.late) any.1.name schema.sites any.1 apart there late_there) any.4.1

  -- what is open to a late master is a master
  pub open_to_late : (x : SiteState) → IsDeclared schema x → opened_of site x ≢ None → x.here.is_master ≡ true
  open_to_late x declared is_open = declared.is_master ∙ go s.from.master refl (second (is_master s.entry) (addresses s.from s.from.master s.entry) s.sends)
    where
      s : SentTo schema x.here.site site
      s = sent_to schema x declared site is_open

      go : (m : Option SiteName) → s.from.master ≡ m → addresses s.from m s.entry ≡ true → is_master_site schema x.here.site ≡ true
      go None is addressed = found_any is_master x.here.site schema.sites s.from s.from_found (rw is refl)
      go (Some m) is addressed = absurd (no_master_is_late x.here.site s.from m s.from_found is (sym (is_same_site-true s.entry.name m addressed) ∙ s.named))
