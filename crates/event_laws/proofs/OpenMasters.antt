-- Each master sends to each other one, and is open to it.
use Rattle.std.proofs.Common.{◌≡◌, ◌≢◌, ℕ, ◌≤◌, List, [], ◌∷◌, map, Bool, true, false, cond, Some, None, refl, sym, ap, ◌∙◌, subst}
use Rattle.std.specs.Prelude.{◌||◌, ◌&&◌, Option, is_none, filter}
use Rattle.std.specs.List.{AllByRecursion, list_any, find}
use Rattle.rep_values.specs.declared.name.SiteName.{SiteName}
use Rattle.rep_schema.specs.declared.schema.Schema.{Schema}
use Rattle.rep_schema.specs.declared.schema.SiteEntry.{SiteEntry}
use Rattle.rep_schema.specs.Shape.{HasShape, is_master}
use Rattle.rep_schema.specs.Named.{is_site, site_named}
use Rattle.rep_schema.specs.Sites.{addresses, sends_to, names_of, senders_of, is_master_site, is_among}
use Rattle.rep_values.specs.SiteNames.{is_same_site}
use Rattle.deferred_queue.proofs.Sites.{is_same_site-true}
use Rattle.packet_code.specs.declared.packet.Packet.{Packet}
use Rattle.site_state.specs.State.{SenderState, SiteState, opened_of}
use Rattle.site_state.specs.Streams.{count_of}
use Rattle.site_state.proofs.SchemaSites.{AreApart, are_apart, any_found}
use Rattle.site_events.specs.Cluster.{site_of}
use Rattle.event_laws.specs.Waiting.{IsFirstNumber}
use Rattle.event_laws.proofs.Sites.{found_all, found_name}
use Rattle.event_laws.proofs.DeclaredSites.{IsSiteOf}
use Rattle.event_laws.proofs.Meeting.{SiteMeets, MeetsAt}
use Rattle.event_laws.proofs.Waiting.{AreMet}

-- ---- masters send to each other

-- an entry with a name that passes is found
find_some : (test : SiteEntry → Bool) (name : SiteName) (es : List SiteEntry) → list_any (λ e. is_site name e && test e) es ≡ true → (s : SiteEntry) × (find (is_site name) es ≡ Some s)
find_some test name [] any = cc
find_some test name (e ∷ es) any = go (is_site name e) any (find_some test name es)
  where
    go : (b : Bool) → ((b && test e) || list_any (λ e. is_site name e && test e) es) ≡ true → (list_any (λ e. is_site name e && test e) es ≡ true → (s : SiteEntry) × (find (is_site name) es ≡ Some s))
        → (s : SiteEntry) × (cond b (Some e) (find (is_site name) es) ≡ Some s)
    go true any later = (e, refl)
    go false any later = later any

found_among : (test : SiteEntry → Bool) (name : SiteName) (es : List SiteEntry) → list_any (λ e. is_site name e && test e) es ≡ true → is_among (names_of (filter test es)) name ≡ true
found_among test name [] any = cc
found_among test name (e ∷ es) any = go (is_site name e) refl (test e) any (found_among test name es)
  where
    more : (b : Bool) → is_among (names_of (filter test es)) name ≡ true → (b || is_among (names_of (filter test es)) name) ≡ true
    more true among = refl
    more false among = among

    go : (b : Bool) → is_site name e ≡ b → (c : Bool) → ((b && c) || list_any (λ e. is_site name e && test e) es) ≡ true → (list_any (λ e. is_site name e && test e) es ≡ true → is_among (names_of (filter test es)) name ≡ true)
        → is_among (names_of (cond c (e ∷ filter test es) (filter test es))) name ≡ true
    go true is true any later = rw is refl
    go false is true any later = more (is_same_site e.name name) (later any)
    go true is false any later = later any
    go false is false any later = later any

any_with : (test other : SiteEntry → Bool) (name : SiteName) (es : List SiteEntry) → ((e : SiteEntry) → is_site name e ≡ true → test e ≡ true → other e ≡ true) → list_any (λ e. is_site name e && test e) es ≡ true
    → list_any (λ e. is_site name e && other e) es ≡ true
any_with test other name [] leads any = cc
any_with test other name (e ∷ es) leads any = go (is_site name e) refl (test e) refl any (any_with test other name es leads)
  where
    more : (b : Bool) → list_any (λ e. is_site name e && other e) es ≡ true → (b || list_any (λ e. is_site name e && other e) es) ≡ true
    more true any = refl
    more false any = any

    go : (b : Bool) → is_site name e ≡ b → (c : Bool) → test e ≡ c → ((b && c) || list_any (λ e. is_site name e && test e) es) ≡ true → (list_any (λ e. is_site name e && test e) es ≡ true → list_any (λ e. is_site name e && other e) es ≡ true)
        → ((b && other e) || list_any (λ e. is_site name e && other e) es) ≡ true
    go true is true passes any later = rw (leads e is passes) refl
    go true is false passes any later = more (other e) (later any)
    go false is c passes any later = later any

found_named : (name : SiteName) (es : List SiteEntry) (s : SiteEntry) → find (is_site name) es ≡ Some s → s.name ≡ name
found_named name [] s e = cc
found_named name (x ∷ xs) s e = go (is_site name x) refl e (found_named name xs s)
  where
    go : (b : Bool) → is_site name x ≡ b → cond b (Some x) (find (is_site name) xs) ≡ Some s → (find (is_site name) xs ≡ Some s → s.name ≡ name) → s.name ≡ name
    go true is e later = let same : x ≡ s = cc in rw (← same) (is_same_site-true x.name name is)
    go false is e later = later e

module _ (schema : Schema) (shape : HasShape schema) where
  apart : AreApart schema.sites
  apart = are_apart schema.sites shape.site_names

  -- of two masters each sends to the other
  pub masters_send : (site origin : SiteName) → is_master_site schema site ≡ true → is_master_site schema origin ≡ true → origin ≢ site → is_among (senders_of schema site) origin ≡ true
  masters_send site origin to_master from_master differ = rw found.1 (found_among (λ from. sends_to from to) origin schema.sites (any_with is_master (λ from. sends_to from to) origin schema.sites sends from_master))
    where
      found : (s : SiteEntry) × (site_named schema site ≡ Some s)
      found = find_some is_master site schema.sites to_master

      to : SiteEntry
      to = found.0

      master : is_master to ≡ true
      master = any_found is_master site schema.sites to apart found.1 to_master

      named : to.name ≡ site
      named = found_named site schema.sites to found.1

      not_same : (from : SiteEntry) → is_site origin from ≡ true → is_site from.name to ≡ false
      not_same from is = go (is_site from.name to) refl
        where
          go : (b : Bool) → is_site from.name to ≡ b → b ≡ false
          go false e = refl
          go true e = absurd (differ (sym (is_same_site-true from.name origin is) ∙ sym (is_same_site-true to.name from.name e) ∙ named))

      sends : (from : SiteEntry) → is_site origin from ≡ true → is_master from ≡ true → sends_to from to ≡ true
      sends from is from_master = rw master (go from.master refl from_master)
        where
          go : (m : Option SiteName) → from.master ≡ m → is_none m ≡ true → addresses from m to ≡ true
          go None at e = rw (not_same from is) refl
          go (Some m) at e = cc

-- ---- streams between masters

-- a site is open to another one from a number on that it had queued
abbrev pub IsOpenTo : SiteName → SiteState → Type 0
IsOpenTo site x = (count : ℕ) × (opened_of site x ≡ Some count) × (count ≤ count_of x)

first_among : (sites : List SiteState) (site origin : SiteName) (y : SiteState) (ss : List SenderState) → site_of origin sites ≡ Some y → is_among (map (λ (s : SenderState). s.origin) ss) origin ≡ true
    → AllByRecursion (λ (s : SenderState). IsFirstNumber (site_of s.origin sites) site s.first) ss → IsOpenTo site y
first_among sites site origin y [] found among firsts = cc
first_among sites site origin y (s ∷ ss) found among firsts = go (is_same_site s.origin origin) refl among (λ later. first_among sites site origin y ss found later firsts.1)
  where
    go : (b : Bool) → is_same_site s.origin origin ≡ b → (b || is_among (map (λ (s : SenderState). s.origin) ss) origin) ≡ true → (is_among (map (λ (s : SenderState). s.origin) ss) origin ≡ true → IsOpenTo site y) → IsOpenTo site y
    go true is among later =
        let first : IsFirstNumber (Some y) site s.first = rw (is_same_site-true s.origin origin is, found) at firsts.0 in
        (s.first, first.0, first.1)
    go false is among later = later among

-- so is each master to each other one
pub masters_open : (schema : Schema) → HasShape schema → (sites : List SiteState) (sent : List Packet) → AreMet schema sites sent → (site origin : SiteName) (x y : SiteState) → site_of site sites ≡ Some x → site_of origin sites ≡ Some y
    → x.here.is_master ≡ true → y.here.is_master ≡ true → origin ≢ site → IsOpenTo site y
masters_open schema shape sites sent met site origin x y found there master other differ =
    let declared = (found_all (IsSiteOf schema) site sites x met.sites_of found).declared in
    let declared_too = (found_all (IsSiteOf schema) origin sites y met.sites_of there).declared in
    let is : is_master_site schema site ≡ true = ap (is_master_site schema) (sym (found_name site sites x found)) ∙ sym declared.is_master ∙ master in
    let is_too : is_master_site schema origin ≡ true = ap (is_master_site schema) (sym (found_name origin sites y there)) ∙ sym declared_too.is_master ∙ other in
    let among : is_among (map (λ (s : SenderState). s.origin) x.senders) origin ≡ true = rw (declared.senders, found_name site sites x found) (masters_send schema shape site origin is is_too differ) in
    let meets : SiteMeets sites site x = subst (MeetsAt sites site) found (met.meets.each site) in
    first_among sites site origin y x.senders there among meets.firsts
