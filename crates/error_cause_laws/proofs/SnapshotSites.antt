-- Snapshot sites as a schema declares them: nobody sends to one, and it sends to its master alone, which isn't late.
use Rattle.std.proofs.Common.{◌≡◌, ◌≢◌, Bool, true, false, List, [], ◌∷◌, map, Some, None, refl, sym, ap, ◌∙◌, subst}
use mathlib.Core.Bool.{true≢false}
use Rattle.std.specs.Prelude.{◌&&◌, not, filter, Option}
use Rattle.std.specs.List.{Any}
use Rattle.std.specs.Option.{option_and_then}
use Rattle.std.proofs.lemmas.Bool.{and_parts}
use Rattle.std.proofs.lemmas.List.Elements.{recursion_from_All}
use Rattle.rep_values.specs.declared.name.SiteName.{SiteName}
use Rattle.rep_schema.specs.declared.schema.Schema.{Schema}
use Rattle.rep_schema.specs.declared.schema.SiteEntry.{SiteEntry}
use Rattle.rep_schema.specs.Shape.{is_master, is_early_master, HasMaster, HasShape}
use Rattle.rep_schema.specs.Named.{is_site, site_named}
use Rattle.rep_schema.specs.Sites.{addresses, sends_to, names_of, senders_to, is_late_master}
use Rattle.deferred_queue.proofs.Sites.{is_same_site-true}
use Rattle.site_state.specs.State.{SenderState, SiteState, opened_of}
use Rattle.site_state.specs.DeclaredSites.{IsDeclared}
use Rattle.site_state.proofs.SchemaSites.{AreApart, are_apart, find_holds, found_any, any_found, place_found}
use Rattle.site_events.specs.Events.{master_of}
use Rattle.event_laws.proofs.LinkedSites.{SentTo, sent_to}

module _ (schema : Schema) (shape : HasShape schema) where
  apart : AreApart schema.sites
  apart = are_apart schema.sites shape.site_names

  -- the master of a snapshot site isn't late
  pub home_is_early : (site home : SiteName) → master_of schema site ≡ Some home → is_late_master schema home ≡ true → ⊥
  home_is_early site home is late = go (site_named schema site) refl is
    where
      by : (e : SiteEntry) → site_named schema site ≡ Some e → (m : Option SiteName) → e.master ≡ m → m ≡ Some home → ⊥
      by e found None at is = cc
      by e found (Some m) at is =
          let named : m ≡ home = cc in
          let has : HasMaster schema.sites e = find_holds (HasMaster schema.sites) (is_site site) schema.sites e (recursion_from_All (HasMaster schema.sites) schema.sites shape.site_masters) found in
          let any : Any (λ (s : SiteEntry). (s.name ≡ m) × (is_early_master s ≡ true)) schema.sites = rw at at has in
          let there : site_named schema any.1.name ≡ Some any.1 = place_found schema.sites any.0 any.1 apart any.2 any.3 in
          let here : site_named schema home ≡ Some any.1 = subst (λ (n : SiteName). site_named schema n ≡ Some any.1) (any.4.0 ∙ named) there in
          let is_late = (and_parts (is_master any.1) any.1.late (any_found (λ e. is_master e && e.late) home schema.sites any.1 apart here late)).1 in
          let early : not any.1.late ≡ true = (and_parts (is_master any.1) (not any.1.late) any.4.1).1 in
          absurd (true≢false (sym early ∙ ap not is_late))

      go : (o : Option SiteEntry) → site_named schema site ≡ o → option_and_then (λ (entry : SiteEntry). entry.master) o ≡ Some home → ⊥
      go None found is = cc
      go (Some e) found is = by e found e.master refl is

  module _ (x : SiteState) (declared : IsDeclared schema x) (off : x.here.is_master ≡ false) where
    no_master : (e : SiteEntry) → site_named schema x.here.site ≡ Some e → is_master e ≡ true → ⊥
    no_master e found on = true≢false (sym (found_any is_master x.here.site schema.sites e found on) ∙ sym declared.is_master ∙ off)

    none_send : (to : SiteEntry) (es : List SiteEntry) → is_master to ≡ false → filter (λ from. sends_to from to) es ≡ []
    none_send to [] is = refl
    none_send to (e ∷ es) is = rw is (none_send to es is)

    -- nobody sends to it
    pub no_senders : x.senders ≡ []
    no_senders = empty x.senders (declared.senders ∙ go (site_named schema x.here.site) refl)
      where
        empty : (ss : List SenderState) → map (λ (s : SenderState). s.origin) ss ≡ [] → ss ≡ []
        empty [] is = refl
        empty (s ∷ ss) is = cc

        by : (e : SiteEntry) → site_named schema x.here.site ≡ Some e → (b : Bool) → is_master e ≡ b → names_of (filter (λ from. sends_to from e) schema.sites) ≡ []
        by e found true on = absurd (no_master e found on)
        by e found false is = ap names_of (none_send e schema.sites is)

        go : (o : Option SiteEntry) → site_named schema x.here.site ≡ o → names_of (senders_to schema.sites o) ≡ []
        go None found = refl
        go (Some e) found = by e found (is_master e) refl

    -- where it sends to is its master
    pub sends_home : (to : SiteName) → opened_of to x ≢ None → master_of schema x.here.site ≡ Some to
    sends_home to is = go s.from.master refl
      where
        s : SentTo schema x.here.site to
        s = sent_to schema x declared to is

        go : (m : Option SiteName) → s.from.master ≡ m → master_of schema x.here.site ≡ Some to
        go None none = absurd (no_master s.from s.from_found (rw none refl))
        go (Some m) at =
            let addressed : addresses s.from s.from.master s.entry ≡ true = (and_parts (is_master s.entry) (addresses s.from s.from.master s.entry) s.sends).1 in
            let here : is_site m s.entry ≡ true = ap (λ o. addresses s.from o s.entry) (sym at) ∙ addressed in
            let same : m ≡ to = sym (is_same_site-true s.entry.name m here) ∙ s.named in
            ap (option_and_then (λ (entry : SiteEntry). entry.master)) s.from_found ∙ at ∙ ap Some same
