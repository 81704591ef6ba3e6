-- A snapshot site and its master: the master has it as a sender, it has no other destination, and there are directions
-- between the two.
use Rattle.std.proofs.Common.{◌≡◌, ◌≢◌, ℕ, List, [], ◌∷◌, map, get_or, Bool, true, false, cond, Some, None, refl, sym, ap, subst, ◌∙◌}
use Rattle.std.specs.Prelude.{◌&&◌, not, filter, Option}
use Rattle.std.specs.Option.{option_and_then}
use Rattle.std.specs.List.{Any, find, AllByRecursion}
use Rattle.std.proofs.lemmas.Bool.{and_parts}
use Rattle.std.proofs.lemmas.List.Elements.{recursion_from_All}
use Rattle.rep_values.specs.declared.name.SiteName.{SiteName}
use Rattle.rep_schema.specs.declared.schema.Schema.{Schema}
use Rattle.rep_schema.specs.declared.schema.SiteEntry.{SiteEntry}
use Rattle.rep_schema.specs.Shape.{is_master, is_early_master, HasMaster, HasShape}
use Rattle.rep_schema.specs.Named.{is_site, site_named}
use Rattle.rep_schema.specs.Sites.{addresses, sends_to, names_of, senders_of, destinations_of, is_among}
use Rattle.rep_values.specs.SiteNames.{is_same_site}
use Rattle.deferred_queue.proofs.Sites.{is_same_site-true, is_same_site-refl}
use Rattle.net_plan.specs.Directions.{HasDirection}
use Rattle.site_state.specs.State.{DestinationState, SiteState}
use Rattle.site_state.proofs.SchemaSites.{AreApart, are_apart, find_holds, place_found, own_is_no_sender}
use Rattle.site_events.specs.Cluster.{site_of}
use Rattle.site_events.specs.Events.{master_of, found_site, run}
use Rattle.event_laws.proofs.Sites.{found_name, found_all}
use Rattle.event_laws.proofs.Happening.{run_keeps}
use Rattle.event_laws.proofs.DeclaredSites.{IsSiteOf, becomes_sites_of, start_sites_of}
use Rattle.world_state.specs.World.{WorldState}
use Rattle.world_state.specs.Phases.{is_setup}
use Rattle.world_laws.specs.SnapshotWorlds.{GoesOn}
use Rattle.world_laws.specs.AlikeWorlds.{IsOfConvergence, Declaring, Going}
use Rattle.world.specs.Finding.{IsAt}
use Rattle.world.specs.Following.{IsBuilt}
use Rattle.world.proofs.Written.{site_of-world}

-- ---- entries

-- an entry that is found by a name, and passes a test, has its name among those that pass
pub found_among : (test : SiteEntry → Bool) (name : SiteName) (es : List SiteEntry) (s : SiteEntry) → find (is_site name) es ≡ Some s → test s ≡ true → is_among (names_of (filter test es)) name ≡ true
found_among test name [] s found passes = absurd (cc found)
found_among test name (e ∷ es) s found passes = go (test e) refl (is_site name e) refl found (found_among test name es s)
  where
    go : (b : Bool) → test e ≡ b → (c : Bool) → is_site name e ≡ c → cond c (Some e) (find (is_site name) es) ≡ Some s
        → (find (is_site name) es ≡ Some s → test s ≡ true → is_among (names_of (filter test es)) name ≡ true) → is_among (names_of (cond b (e ∷ filter test es) (filter test es))) name ≡ true
    go true own true is found later = rw is refl
    go true own false is found later = rw is (later found passes)
    go false own true is found later = let same : e ≡ s = cc found in absurd (cc (own, passes, same))
    go false own false is found later = later found passes

module _ (test : SiteEntry → Bool) (name : SiteName) where
  -- the entries of a name that pass a test
  abbrev picked : List SiteEntry → List SiteEntry
  picked es = filter (λ (e : SiteEntry). test e && is_site name e) es

  none_picked : (es : List SiteEntry) → AllByRecursion (λ (u : SiteEntry). name ≢ u.name) es → picked es ≡ []
  none_picked [] others = refl
  none_picked (e ∷ es) others = go (test e) (is_site name e) refl (none_picked es others.1)
    where
      go : (b c : Bool) → is_site name e ≡ c → picked es ≡ [] → cond (b && c) (e ∷ picked es) (picked es) ≡ []
      go true true is later = absurd (others.0 (sym (is_same_site-true e.name name is)))
      go true false is later = later
      go false c is later = later

  -- the one that is found
  one_picked : (es : List SiteEntry) (t : SiteEntry) → AreApart es → find (is_site name) es ≡ Some t → test t ≡ true → picked es ≡ t ∷ []
  one_picked [] t apart found passes = absurd (cc found)
  one_picked (e ∷ es) t apart found passes = go (is_site name e) refl found (one_picked es t apart.1)
    where
      skip : (b : Bool) → cond (b && false) (e ∷ picked es) (picked es) ≡ picked es
      skip true = refl
      skip false = refl

      go : (c : Bool) → is_site name e ≡ c → cond c (Some e) (find (is_site name) es) ≡ Some t → (find (is_site name) es ≡ Some t → test t ≡ true → picked es ≡ t ∷ [])
          → cond (test e && c) (e ∷ picked es) (picked es) ≡ t ∷ []
      go true is found later =
          let same : e ≡ t = cc found in
          let passes_too : test e ≡ true = ap test same ∙ passes in
          let none = none_picked es (subst (λ (n : SiteName). AllByRecursion (λ (u : SiteEntry). n ≢ u.name) es) (is_same_site-true e.name name is) apart.0) in
          ap (λ (b : Bool). cond (b && true) (e ∷ picked es) (picked es)) passes_too ∙ ap (λ (xs : List SiteEntry). e ∷ xs) none ∙ ap (λ (u : SiteEntry). u ∷ []) same
      go false is found later = skip (test e) ∙ later found passes

-- ---- a schema

module _ (schema : Schema) (shape : HasShape schema) (site master : SiteName) (is : master_of schema site ≡ Some master) where
  apart : AreApart schema.sites
  apart = are_apart schema.sites shape.site_names

  -- the entries of a site and of its master
  record IsServed : Type 0 where
    from : SiteEntry
    from_found : site_named schema site ≡ Some from
    serves : from.master ≡ Some master
    to : SiteEntry
    to_found : site_named schema master ≡ Some to
    named : to.name ≡ master
    passes : is_master to ≡ true

  served : IsServed
  served = go (site_named schema site) refl is
    where
      go : (o : Option SiteEntry) → site_named schema site ≡ o → option_and_then (λ (e : SiteEntry). e.master) o ≡ Some master → IsServed
      go None found serves = absurd (cc serves)
      go (Some e) found serves =
          let has : HasMaster schema.sites e = find_holds (HasMaster schema.sites) (is_site site) schema.sites e (recursion_from_All (HasMaster schema.sites) schema.sites shape.site_masters) found in
          let any : Any (λ (s : SiteEntry). (s.name ≡ master) × (is_early_master s ≡ true)) schema.sites = rw serves at has in
          let there : site_named schema any.1.name ≡ Some any.1 = place_found schema.sites any.0 any.1 apart any.2 any.3 in
          record {
            from = e;
            from_found = found;
            serves = serves;
            to = any.1;
            to_found = subst (λ (n : SiteName). site_named schema n ≡ Some any.1) any.4.0 there;
            named = any.4.0;
            passes = (and_parts (is_master any.1) (not any.1.late) any.4.1).0;
          }

  sends : sends_to served.from served.to ≡ true
  sends = ap (λ (b : Bool). b && addresses served.from served.from.master served.to) served.passes ∙ ap (λ (m : Option SiteName). addresses served.from m served.to) served.serves
      ∙ subst (λ (n : SiteName). is_same_site served.to.name n ≡ true) served.named (is_same_site-refl served.to.name)

  -- the master has the site as a sender
  pub gets_from_site : is_among (senders_of schema master) site ≡ true
  gets_from_site = rw served.to_found (found_among (λ (from : SiteEntry). sends_to from served.to) site schema.sites served.from served.from_found sends)

  -- the site has no other destination
  pub only_destination : destinations_of schema site ≡ master ∷ []
  only_destination = rw served.from_found (subst (λ (m : Option SiteName). names_of (filter (λ (to : SiteEntry). is_master to && addresses served.from m to) schema.sites) ≡ master ∷ []) (sym served.serves)
      (ap names_of (one_picked is_master master schema.sites served.to apart served.to_found served.passes) ∙ ap (λ (n : SiteName). n ∷ []) served.named))

  -- and is another one
  pub is_another : site ≢ master
  is_another same =
      let own : is_among (senders_of schema master) master ≡ true = subst (λ (n : SiteName). is_among (senders_of schema master) n ≡ true) same gets_from_site in
      cc (own, own_is_no_sender schema shape master)

-- ---- a world

-- the sites of a world are of its schema, and as it declares them
pub sites_of_schema : (w : WorldState) → GoesOn w → AllByRecursion (IsSiteOf w.schema) w.sites
sites_of_schema w g = subst (AllByRecursion (IsSiteOf w.schema)) (sym g.leads.simulates.sites)
    (run_keeps (λ xs sent. AllByRecursion (IsSiteOf w.schema) xs) (becomes_sites_of w.schema) g.leads.events g.start (start_sites_of w.schema g.start.sites g.snapshots.fit.start.sites g.meshed.declared.each))

pub site_of_schema : (w : WorldState) → GoesOn w → (site : SiteName) (x : SiteState) → site_of site w.sites ≡ Some x → IsSiteOf w.schema x
site_of_schema w g site x at_x = found_all (IsSiteOf w.schema) site w.sites x (sites_of_schema w g) at_x

pub behind_goes : (w : WorldState) → IsOfConvergence w → is_setup w.phase ≡ false → GoesOn w
behind_goes w (Declaring so_far) behind = absurd (cc (behind, so_far.setup.setup))
behind_goes w (Going a) behind = a.goes

-- a site and its master are two, with directions between them, and the site has no other destination
pub record IsServedBy (w : WorldState) (x m : SiteState) : Type 0 where
  pub there : HasDirection w.net x.here.site m.here.site
  pub back : HasDirection w.net m.here.site x.here.site
  pub sends : map (λ (d : DestinationState). d.site) x.destinations ≡ m.here.site ∷ []
  pub another : x.here.site ≢ m.here.site

pub served_by : (w : WorldState) → IsBuilt w → is_setup w.phase ≡ false → (site : SiteName) (x m : SiteState) → site_of site w.sites ≡ Some x → found_site w.sites (master_of w.schema site) ≡ Some m
    → IsServedBy w x m
served_by w built behind site x m at_x at_m = go (master_of w.schema site) refl at_m
  where
    here : x.here.site ≡ site
    here = found_name site w.sites x at_x

    by_names : (name : SiteName) → master_of w.schema site ≡ Some name → m.here.site ≡ name → IsServedBy w x m
    by_names name is named =
        let linked = built.linked behind name site (gets_from_site w.schema built.shape site name is) in
        rw (here, named) (record {
          there = linked.1;
          back = linked.0;
          sends = (site_of_schema w (behind_goes w built.of_convergence behind) site x at_x).declared.destinations ∙ ap (destinations_of w.schema) here ∙ only_destination w.schema built.shape site name is;
          another = is_another w.schema built.shape site name is;
        })

    go : (o : Option SiteName) → master_of w.schema site ≡ o → found_site w.sites o ≡ Some m → IsServedBy w x m
    go None is found = absurd (cc found)
    go (Some name) is found = by_names name is (found_name name w.sites m found)

-- ---- what was read of a world

-- the master of a site that was read at its place
pub master_read : (w seen : WorldState) (schema : Schema) (sites : List SiteState) (site master : SiteName) (place : ℕ) (m : SiteState) → seen ≡ w → schema ≡ seen.schema → Some master ≡ master_of schema site
    → sites ≡ seen.sites → IsAt master sites place → m ≡ get_or seen.sites place m → found_site w.sites (master_of w.schema site) ≡ Some m
master_read w seen schema sites site master place m world_is schema_is named sites_are at stands =
    ap (λ (s : Schema). found_site w.sites (master_of s site)) (sym (schema_is ∙ ap (λ (v : WorldState). v.schema) world_is)) ∙ ap (found_site w.sites) (sym named)
    ∙ site_of-world master seen w sites place m world_is sites_are at stands
