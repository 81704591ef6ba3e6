-- What a schema says of its sites: who sends to whom is told alike from both ends, nobody sends to itself, and masters alone
-- send to a late master.
use Rattle.std.proofs.Common.{◌≡◌, ◌≢◌, ℕ, zero, suc, ◌<◌, List, [], ◌∷◌, length, map, Bool, true, false, cond, Some, None, refl, sym, ◌∙◌, arith, subst}
use Rattle.std.specs.Prelude.{◌||◌, ◌&&◌, not, is_none, filter, Option}
use Rattle.std.specs.List.{Any, list_any, find, AllByRecursion, slice_index_or}
use Rattle.std.proofs.lemmas.List.Elements.{recursion_from_All}
use Rattle.rep_values.specs.declared.name.SiteName.{SiteName}
use Rattle.rep_schema.specs.declared.schema.Schema.{Schema}
use Rattle.rep_schema.specs.declared.schema.SiteEntry.{SiteEntry}
use Rattle.rep_schema.specs.Shape.{AreDistinct, is_master, is_early_master, HasMaster, HasShape}
use Rattle.rep_schema.specs.Named.{is_site, site_named}
use Rattle.rep_schema.specs.Sites.{addresses, sends_to, names_of, senders_to, senders_of, destinations_of, is_master_site, is_among, is_late_master}
use Rattle.rep_values.specs.SiteNames.{is_same_site}
use Rattle.deferred_queue.proofs.Sites.{is_same_site-true, is_same_site-refl}

-- ---- entries by name

-- no two entries have the same name
abbrev pub AreApart : List SiteEntry → Type 0
AreApart [] = Unit {0}
AreApart (e ∷ es) = AllByRecursion (λ (u : SiteEntry). e.name ≢ u.name) es × AreApart es

of_entries : (name : SiteName) (es : List SiteEntry) → AllByRecursion (λ (n : SiteName). name ≢ n) (map (λ (s : SiteEntry). s.name) es) → AllByRecursion (λ (u : SiteEntry). name ≢ u.name) es
of_entries name [] all = tt
of_entries name (e ∷ es) all = (all.0, of_entries name es all.1)

pub are_apart : (es : List SiteEntry) → AreDistinct (map (λ (s : SiteEntry). s.name) es) → AreApart es
are_apart [] distinct = tt
are_apart (e ∷ es) distinct = (
  of_entries e.name es (recursion_from_All (λ (n : SiteName). e.name ≢ n) (map (λ (s : SiteEntry). s.name) es) (λ k d within. distinct 0 (suc k) d (omega arith) (omega (arith, within)))),
  are_apart es (λ i j d less within. distinct (suc i) (suc j) d (omega (arith, less)) (omega (arith, within))),
)

pub find_holds : (P : SiteEntry → Type 0) (test : SiteEntry → Bool) (es : List SiteEntry) (s : SiteEntry) → AllByRecursion P es → find test es ≡ Some s → P s
find_holds P test [] s all found = absurd (cc found)
find_holds P test (e ∷ es) s all found = go (test e) (find_holds P test es s all.1) found
  where
    go : (b : Bool) → (find test es ≡ Some s → P s) → cond b (Some e) (find test es) ≡ Some s → P s
    go true later found = let same : e ≡ s = cc found in rw (← same) all.0
    go false later found = later found

find_passes : (test : SiteEntry → Bool) (es : List SiteEntry) (s : SiteEntry) → find test es ≡ Some s → test s ≡ true
find_passes test [] s found = absurd (cc found)
find_passes test (e ∷ es) s found = go (test e) refl (find_passes test es s) found
  where
    go : (b : Bool) → test e ≡ b → (find test es ≡ Some s → test s ≡ true) → cond b (Some e) (find test es) ≡ Some s → test s ≡ true
    go true is later found = let same : e ≡ s = cc found in rw (← same) is
    go false is later found = later found

-- an entry that is found by a name has it
find_name : (name : SiteName) (es : List SiteEntry) (s : SiteEntry) → find (is_site name) es ≡ Some s → s.name ≡ name
find_name name es s found = is_same_site-true s.name name (find_passes (is_site name) es s found)

-- an entry has a name that no later one has
not_later : (name : SiteName) (e : SiteEntry) (es : List SiteEntry) (s : SiteEntry) → AllByRecursion (λ (u : SiteEntry). e.name ≢ u.name) es → is_site name e ≡ true → find (is_site name) es ≡ Some s → ⊥
not_later name e es s apart is found =
    find_holds (λ (u : SiteEntry). e.name ≢ u.name) (is_site name) es s apart found (is_same_site-true e.name name is ∙ sym (find_name name es s found))

-- a name among those of some entries is that of an entry that is found by it, and is one of these
among_found : (test : SiteEntry → Bool) (name : SiteName) (es : List SiteEntry) → AreApart es → is_among (names_of (filter test es)) name ≡ true
    → (s : SiteEntry) × (find (is_site name) es ≡ Some s) × (test s ≡ true)
among_found test name [] apart among = absurd (cc among)
among_found test name (e ∷ es) apart among = go (test e) refl (is_site name e) refl (among_found test name es apart.1) among
  where
    Found : Type 0
    Found = (s : SiteEntry) × (find (is_site name) es ≡ Some s) × (test s ≡ true)

    behind : (b : Bool) → is_site name e ≡ b → Found → (s : SiteEntry) × (find (is_site name) (e ∷ es) ≡ Some s) × (test s ≡ true)
    behind true is found = absurd (not_later name e es found.0 apart.0 is found.1)
    behind false is found = (found.0, rw is found.1, found.2)

    go : (b : Bool) → test e ≡ b → (c : Bool) → is_site name e ≡ c → (is_among (names_of (filter test es)) name ≡ true → Found)
        → is_among (names_of (cond b (e ∷ filter test es) (filter test es))) name ≡ true → (s : SiteEntry) × (find (is_site name) (e ∷ es) ≡ Some s) × (test s ≡ true)
    go true passes true is later among = (e, rw is refl, passes)
    go true passes false is later among = behind false is (later (rw is at among))
    go false passes c is later among = behind c is (later among)

found_among : (test : SiteEntry → Bool) (name : SiteName) (es : List SiteEntry) (s : SiteEntry) → find (is_site name) es ≡ Some s → test s ≡ true → is_among (names_of (filter test es)) name ≡ true
found_among test name [] s found passes = absurd (cc found)
found_among test name (e ∷ es) s found passes = go (test e) refl (is_site name e) refl found (found_among test name es s)
  where
    go : (b : Bool) → test e ≡ b → (c : Bool) → is_site name e ≡ c → cond c (Some e) (find (is_site name) es) ≡ Some s
        → (find (is_site name) es ≡ Some s → test s ≡ true → is_among (names_of (filter test es)) name ≡ true) → is_among (names_of (cond b (e ∷ filter test es) (filter test es))) name ≡ true
    go true own true is found later = rw is refl
    go true own false is found later = rw is (later found passes)
    go false own true is found later = let same : e ≡ s = cc found in absurd (cc (own, passes, same))
    go false own false is found later = later found passes

-- some entry of a name passes a test where the one that is found does
pub found_any : (test : SiteEntry → Bool) (name : SiteName) (es : List SiteEntry) (s : SiteEntry) → find (is_site name) es ≡ Some s → test s ≡ true → list_any (λ e. is_site name e && test e) es ≡ true
found_any test name [] s found passes = absurd (cc found)
found_any test name (e ∷ es) s found passes = go (is_site name e) refl found (found_any test name es s)
  where
    go : (b : Bool) → is_site name e ≡ b → cond b (Some e) (find (is_site name) es) ≡ Some s → (find (is_site name) es ≡ Some s → test s ≡ true → list_any (λ e. is_site name e && test e) es ≡ true)
        → ((is_site name e && test e) || list_any (λ e. is_site name e && test e) es) ≡ true
    go true is found later = let same : e ≡ s = cc found in rw (is, same, passes) refl
    go false is found later = rw is (later found passes)

none_later : (test : SiteEntry → Bool) (name : SiteName) (es : List SiteEntry) → AllByRecursion (λ (u : SiteEntry). name ≢ u.name) es → list_any (λ e. is_site name e && test e) es ≡ false
none_later test name [] apart = refl
none_later test name (e ∷ es) apart = go (is_site name e) refl (none_later test name es apart.1)
  where
    go : (b : Bool) → is_site name e ≡ b → list_any (λ e. is_site name e && test e) es ≡ false → ((is_site name e && test e) || list_any (λ e. is_site name e && test e) es) ≡ false
    go true is later = absurd (apart.0 (sym (is_same_site-true e.name name is)))
    go false is later = rw is later

-- and only there
pub any_found : (test : SiteEntry → Bool) (name : SiteName) (es : List SiteEntry) (s : SiteEntry) → AreApart es → find (is_site name) es ≡ Some s → list_any (λ e. is_site name e && test e) es ≡ true → test s ≡ true
any_found test name [] s apart found any = absurd (cc found)
any_found test name (e ∷ es) s apart found any = go (is_site name e) refl (test e) refl found any (any_found test name es s apart.1)
  where
    go : (b : Bool) → is_site name e ≡ b → (c : Bool) → test e ≡ c → cond b (Some e) (find (is_site name) es) ≡ Some s → ((is_site name e && test e) || list_any (λ e. is_site name e && test e) es) ≡ true
        → (find (is_site name) es ≡ Some s → list_any (λ e. is_site name e && test e) es ≡ true → test s ≡ true) → test s ≡ true
    go true is true own found any later = let same : e ≡ s = cc found in rw (← same) own
    go true is false own found any later =
        let none : list_any (λ e. is_site name e && test e) es ≡ false = none_later test name es (subst (λ (n : SiteName). AllByRecursion (λ (u : SiteEntry). n ≢ u.name) es) (is_same_site-true e.name name is) apart.0) in
        let rest : list_any (λ e. is_site name e && test e) es ≡ true = rw (is, own) at any in
        absurd (cc (none, rest))
    go false is c own found any later = later found (rw is at any)

-- an entry at a place is the one that is found by its name
pub place_found : (es : List SiteEntry) (k : ℕ) (u : SiteEntry) → AreApart es → k < length es → slice_index_or es k u ≡ u → find (is_site u.name) es ≡ Some u
place_found [] k u apart within is = absurd (omega (arith, within))
place_found (e ∷ es) zero u apart within is = let same : e ≡ u = is in rw (same, is_same_site-refl u.name) refl
place_found (e ∷ es) (suc k) u apart within is = go (is_site u.name e) refl (place_found es k u apart.1 (omega (arith, within)) is)
  where
    go : (b : Bool) → is_site u.name e ≡ b → find (is_site u.name) es ≡ Some u → cond b (Some e) (find (is_site u.name) es) ≡ Some u
    go true own later = absurd (not_later u.name e es u apart.0 own later)
    go false own later = later

-- ---- senders and destinations

module _ (schema : Schema) (shape : HasShape schema) where
  apart : AreApart schema.sites
  apart = are_apart schema.sites shape.site_names

  -- what is known of a sender of a site
  record SendsTo (site origin : SiteName) : Type 0 where
    to : SiteEntry
    to_found : site_named schema site ≡ Some to
    from : SiteEntry
    from_found : site_named schema origin ≡ Some from
    sends : sends_to from to ≡ true

  sender_is : (site origin : SiteName) → is_among (senders_of schema site) origin ≡ true → SendsTo site origin
  sender_is site origin among = go (site_named schema site) refl among
    where
      go : (to : Option SiteEntry) → site_named schema site ≡ to → is_among (names_of (senders_to schema.sites to)) origin ≡ true → SendsTo site origin
      go None found among = absurd (cc among)
      go (Some to) found among =
          let from = among_found (λ s. sends_to s to) origin schema.sites apart among in
          record { to = to; to_found = found; from = from.0; from_found = from.1; sends = from.2 }

  -- a site that sends to another one has it as a destination
  pub sender_has_destination : (site origin : SiteName) → is_among (senders_of schema site) origin ≡ true → is_among (destinations_of schema origin) site ≡ true
  sender_has_destination site origin among =
      let is = sender_is site origin among in
      rw is.from_found (found_among (sends_to is.from) site schema.sites is.to is.to_found is.sends)

  both : (b c : Bool) → (b && c) ≡ true → (b ≡ true) × (c ≡ true)
  both true c is = (refl, is)
  both false c is = cc

  pub to_itself : (s : SiteEntry) → sends_to s s ≡ true → ⊥
  to_itself s sends = go s.master refl (both (is_master s) (addresses s s.master s) sends)
    where
      go : (m : Option SiteName) → s.master ≡ m → (is_none s.master ≡ true) × (addresses s s.master s ≡ true) → ⊥
      go None is parts = let other : not (is_site s.name s) ≡ true = rw is at parts.1 in let own : is_site s.name s ≡ true = is_same_site-refl s.name in cc
      go (Some m) is parts = let none : is_none (Some m) ≡ true = rw is at parts.0 in absurd (cc none)

  -- no site is its own sender
  pub own_is_no_sender : (site : SiteName) → is_among (senders_of schema site) site ≡ false
  own_is_no_sender site = go (is_among (senders_of schema site) site) refl
    where
      go : (b : Bool) → is_among (senders_of schema site) site ≡ b → b ≡ false
      go false is = refl
      go true is =
          let s = sender_is site site is in
          let same : s.from ≡ s.to = cc (s.from_found, s.to_found) in
          absurd (to_itself s.to (subst (λ e. sends_to e s.to ≡ true) same s.sends))

  -- what sends to a late master is a master
  pub late_has_masters : (site origin : SiteName) → is_late_master schema site ≡ true → is_among (senders_of schema site) origin ≡ true → is_master_site schema origin ≡ true
  late_has_masters site origin late among = go s.from.master refl (both (is_master s.to) (addresses s.from s.from.master s.to) s.sends).1
    where
      s : SendsTo site origin
      s = sender_is site origin among

      is_late : s.to.late ≡ true
      is_late = (both (is_master s.to) s.to.late (any_found (λ e. is_master e && e.late) site schema.sites s.to apart s.to_found late)).1

      early_not_late : (e : SiteEntry) → is_early_master e ≡ true → e.late ≡ true → ⊥
      early_not_late e early late = let on : not e.late ≡ true = (both (is_master e) (not e.late) early).1 in cc

      masters : (m : SiteName) → HasMaster schema.sites s.from → s.from.master ≡ Some m → is_site m s.to ≡ true → ⊥
      masters m has is of_m =
          let any : Any (λ (e : SiteEntry). (e.name ≡ m) × (is_early_master e ≡ true)) schema.sites = rw is at has in
          let found : site_named schema any.1.name ≡ Some any.1 = place_found schema.sites any.0 any.1 apart any.2 any.3 in
          let names : any.1.name ≡ site = any.4.0 ∙ sym (is_same_site-true s.to.name m of_m) ∙ find_name site schema.sites s.to s.to_found in
          let same : any.1 ≡ s.to = cc (subst (λ (n : SiteName). site_named schema n ≡ Some any.1) names found, s.to_found) in
          early_not_late s.to (subst (λ e. is_early_master e ≡ true) same any.4.1) is_late

      go : (m : Option SiteName) → s.from.master ≡ m → addresses s.from s.from.master s.to ≡ true → is_master_site schema origin ≡ true
      go None is addressed = found_any is_master origin schema.sites s.from s.from_found (rw is refl)
      go (Some m) is addressed =
          absurd (masters m (find_holds (HasMaster schema.sites) (is_site origin) schema.sites s.from (recursion_from_All (HasMaster schema.sites) schema.sites shape.site_masters) s.from_found) is (rw is at addressed))

-- ---- names

-- a name is among others
pub not_among : (name : SiteName) (names : List SiteName) → is_among names name ≡ false → AllByRecursion (λ (n : SiteName). is_same_site n name ≡ false) names
not_among name [] is = tt
not_among name (n ∷ ns) is = go (is_same_site n name) refl is (not_among name ns)
  where
    go : (b : Bool) → is_same_site n name ≡ b → (b || is_among ns name) ≡ false → (is_among ns name ≡ false → AllByRecursion (λ (n : SiteName). is_same_site n name ≡ false) ns)
        → AllByRecursion (λ (n : SiteName). is_same_site n name ≡ false) (n ∷ ns)
    go true same is later = cc
    go false other is later = (other, later is)

-- the senders of a site are others
pub senders_of-others : (schema : Schema) → HasShape schema → (site : SiteName) → AllByRecursion (λ (n : SiteName). is_same_site n site ≡ false) (senders_of schema site)
senders_of-others schema shape site = not_among site (senders_of schema site) (own_is_no_sender schema shape site)
