-- Names stay apart: events change what a site keeps and never its name, and a site that joins has a name that no other one has.
use Rattle.std.proofs.Common.{◌≡◌, ◌≢◌, List, [], ◌∷◌, ◌++◌, map, Bool, true, false, cond, Some, None, refl, sym, ap, ◌∙◌, subst}
use Rattle.std.specs.Prelude.{filter, Option, option_map}
use Rattle.std.specs.List.{AllByRecursion}
use Rattle.rep_values.specs.declared.name.SiteName.{SiteName}
use Rattle.rep_schema.specs.declared.schema.SiteEntry.{SiteEntry}
use Rattle.rep_values.specs.SiteNames.{is_same_site}
use Rattle.deferred_queue.proofs.Sites.{is_same_site-true, is_same_site-refl}
use Rattle.packet_code.specs.declared.packet.Packet.{Packet}
use Rattle.site_state.specs.State.{SiteState}
use Rattle.site_state.specs.Packets.{site_accept}
use Rattle.site_state.specs.Purges.{site_purge}
use Rattle.site_state.specs.Joining.{site_open}
use Rattle.site_state.proofs.SchemaSites as schema_sites
use Rattle.site_state.proofs.Changing.{accept_later}
use Rattle.site_events.specs.Cluster.{site_of, at_site}
use Rattle.site_events.specs.Joins.{copied}
use Rattle.site_events.specs.Events.{receiver, run}
use Rattle.event_laws.proofs.Sites.{KeepsHere, at_split, found_or, site_of-joined}
use Rattle.event_laws.proofs.Happening.{Becomes, here-IsRefreshed, run_keeps}
use Rattle.event_laws.proofs.Happening as happening
use Rattle.event_laws.proofs.NewSites.{copied_here}
use Rattle.event_laws.specs.Names.{SitesApart, AreFoundByName, NamesStayApart, EachIsFoundByItsName}

-- ---- one site changes

none_at : (name other : SiteName) (change : SiteState → SiteState) (xs : List SiteState) → KeepsHere change → site_of other xs ≡ None → site_of other (at_site name change xs) ≡ None
none_at name other change xs keeps none = at_split (λ (o : Option SiteState). o ≡ None) name other change xs keeps (λ same. ap (option_map change) none) none

pub apart_at : (name : SiteName) (change : SiteState → SiteState) (xs : List SiteState) → KeepsHere change → SitesApart xs → SitesApart (at_site name change xs)
apart_at name change [] keeps apart = tt
apart_at name change (x ∷ xs) keeps apart = go (is_same_site x.here.site name) (apart_at name change xs keeps apart.1)
  where
    go : (b : Bool) → SitesApart (at_site name change xs) → SitesApart (cond b (change x ∷ xs) (x ∷ at_site name change xs))
    go true later = (rw (keeps x) apart.0, apart.1)
    go false later = (none_at name x.here.site change xs keeps apart.0, later)

-- ---- all sites change, and one comes

none_joined : (name : SiteName) (change : SiteState → SiteState) (xs : List SiteState) (new : SiteState) → KeepsHere change → is_same_site name new.here.site ≡ false → site_of name xs ≡ None
    → site_of name (map change xs ++ new ∷ []) ≡ None
none_joined name change xs new keeps other none =
    site_of-joined name change xs new keeps ∙ ap (λ (o : Option SiteState). found_or (site_of name (new ∷ [])) (option_map change o)) none ∙ go (is_same_site new.here.site name) refl
  where
    go : (b : Bool) → is_same_site new.here.site name ≡ b → found_or (cond b (Some new) None) None ≡ None
    go true same =
        let own : is_same_site name new.here.site ≡ true = ap (is_same_site name) (is_same_site-true new.here.site name same) ∙ is_same_site-refl name in
        absurd (cc (own, other))
    go false same = refl

pub apart_joined : (change : SiteState → SiteState) (xs : List SiteState) (new : SiteState) → KeepsHere change → site_of new.here.site xs ≡ None → SitesApart xs → SitesApart (map change xs ++ new ∷ [])
apart_joined change [] new keeps absent apart = (refl, tt)
apart_joined change (x ∷ xs) new keeps absent apart = go (is_same_site x.here.site new.here.site) refl absent (λ absent. apart_joined change xs new keeps absent apart.1)
  where
    first : is_same_site x.here.site new.here.site ≡ false → site_of (change x).here.site (map change xs ++ new ∷ []) ≡ None
    first other = rw (keeps x) (none_joined x.here.site change xs new keeps other apart.0)

    go : (b : Bool) → is_same_site x.here.site new.here.site ≡ b → cond b (Some x) (site_of new.here.site xs) ≡ None → (site_of new.here.site xs ≡ None → SitesApart (map change xs ++ new ∷ []))
        → SitesApart (change x ∷ (map change xs ++ new ∷ []))
    go true same absent later = absurd (cc absent)
    go false other absent later = (first other, later absent)

-- ---- every event

becomes_apart : (xs : List SiteState) (sent : List Packet) (ys : List SiteState) (more : List Packet) → Becomes xs sent ys more → SitesApart xs → SitesApart ys
becomes_apart xs sent _ _ happening.Stays apart = apart
becomes_apart xs sent _ _ (happening.Journalled name change steps) apart = apart_at name change xs (λ x. (steps x).here) apart
becomes_apart xs sent _ _ (happening.Sends from to position) apart = apart
becomes_apart xs sent _ _ (happening.Marks from to) apart = apart
becomes_apart xs sent _ _ (happening.Delivers packet which is) apart = apart_at (receiver packet) (site_accept packet) xs (λ x. (accept_later packet x).here) apart
becomes_apart xs sent _ _ (happening.Purges name) apart = apart_at name site_purge xs (λ x. refl) apart
becomes_apart xs sent _ _ (happening.Refreshes name change refreshed) apart = apart_at name change xs (λ x. here-IsRefreshed xs x (change x) (refreshed x)) apart
becomes_apart xs sent _ _ (happening.Joins site from source absent found may) apart =
    let named : (copied xs source site).here.site ≡ site = ap (λ h. h.site) (copied_here xs source site) in
    apart_joined (site_open site) xs (copied xs source site) (λ x. refl) (subst (λ (n : SiteName). site_of n xs ≡ None) (sym named) absent) apart

pub names_stay_apart : NamesStayApart
names_stay_apart start events apart = run_keeps (λ xs sent. SitesApart xs) becomes_apart events start apart

-- ---- sites are found

-- a site that is found among some is found behind another one
found_behind : (y : SiteState) (xs zs : List SiteState) → site_of y.here.site xs ≡ None → AllByRecursion (λ (z : SiteState). site_of z.here.site xs ≡ Some z) zs
    → AllByRecursion (λ (z : SiteState). site_of z.here.site (y ∷ xs) ≡ Some z) zs
found_behind y xs [] none all = tt
found_behind y xs (z ∷ zs) none all = (go (is_same_site y.here.site z.here.site) refl, found_behind y xs zs none all.1)
  where
    go : (b : Bool) → is_same_site y.here.site z.here.site ≡ b → cond b (Some y) (site_of z.here.site xs) ≡ Some z
    go true same =
        let names : y.here.site ≡ z.here.site = is_same_site-true y.here.site z.here.site same in
        let gone : site_of z.here.site xs ≡ None = subst (λ (n : SiteName). site_of n xs ≡ None) names none in
        absurd (cc (gone, all.0))
    go false other = all.0

-- sites whose names are apart are found by their names
pub found_by_name : (xs : List SiteState) → SitesApart xs → AreFoundByName xs
found_by_name [] apart = tt
found_by_name (x ∷ xs) apart = (rw (is_same_site-refl x.here.site) refl, found_behind x xs xs apart.0 (found_by_name xs apart.1))

pub each_is_found_by_its_name : EachIsFoundByItsName
each_is_found_by_its_name start events apart = found_by_name (run events start).sites (names_stay_apart start events apart)

-- ---- where runs begin

none_made : (made : SiteEntry → SiteState) → ((e : SiteEntry) → (made e).here.site ≡ e.name) → (test : SiteEntry → Bool) (name : SiteName) (es : List SiteEntry) → AllByRecursion (λ (u : SiteEntry). name ≢ u.name) es
    → site_of name (map made (filter test es)) ≡ None
none_made made names test name [] apart = refl
none_made made names test name (e ∷ es) apart = go (test e) (none_made made names test name es apart.1)
  where
    off : (b : Bool) → is_same_site (made e).here.site name ≡ b → site_of name (map made (filter test es)) ≡ None → cond b (Some (made e)) (site_of name (map made (filter test es))) ≡ None
    off true same later = absurd (apart.0 (sym (is_same_site-true (made e).here.site name same) ∙ names e))
    off false other later = later

    go : (b : Bool) → site_of name (map made (filter test es)) ≡ None → site_of name (map made (cond b (e ∷ filter test es) (filter test es))) ≡ None
    go true later = off (is_same_site (made e).here.site name) refl later
    go false later = later

-- sites that are made of some entries of a schema, each with its entry's name, are apart as the entries are
pub apart_made : (made : SiteEntry → SiteState) → ((e : SiteEntry) → (made e).here.site ≡ e.name) → (test : SiteEntry → Bool) (es : List SiteEntry) → schema_sites.AreApart es → SitesApart (map made (filter test es))
apart_made made names test [] apart = tt
apart_made made names test (e ∷ es) apart = go (test e) (apart_made made names test es apart.1)
  where
    go : (b : Bool) → SitesApart (map made (filter test es)) → SitesApart (map made (cond b (e ∷ filter test es) (filter test es)))
    go true later = (rw (names e) (none_made made names test e.name es apart.0), later)
    go false later = later
