-- One site of several.
use Rattle.std.proofs.Common.{◌≡◌, ℕ, zero, suc, List, [], ◌∷◌, ◌++◌, map, Bool, true, false, cond, Some, None, refl, sym, ap, ◌∙◌, arith, subst}
use Rattle.std.specs.Prelude.{Option, option_map, slice_get}
use mathlib.Core.Bool.{true≢false}
use Rattle.std.specs.List.{AllByRecursion}
use Rattle.rep_values.specs.declared.name.SiteName.{SiteName}
use Rattle.rep_values.specs.SiteNames.{is_same_site}
use Rattle.deferred_queue.proofs.Sites.{is_same_site-true, is_same_site-refl}
use Rattle.txn_effects.specs.declared.local.Here.{Here}
use Rattle.site_state.specs.State.{SiteState}
use Rattle.site_events.specs.Cluster.{site_of, at_site}

-- what changes a site leaves what it is
abbrev pub KeepsHere : (SiteState → SiteState) → Type 0
KeepsHere change = (x : SiteState) → (change x).here ≡ x.here

same_test : (change : SiteState → SiteState) → KeepsHere change → (x : SiteState) (name : SiteName) → is_same_site (change x).here.site name ≡ is_same_site x.here.site name
same_test change keeps x name = ap (λ (h : Here). is_same_site h.site name) (keeps x)

-- the site of a name, where one site changed: it, or another one as it was
pub at_split : (P : Option SiteState → Type 0) (name other : SiteName) (change : SiteState → SiteState) (xs : List SiteState) → KeepsHere change
    → (name ≡ other → P (option_map change (site_of other xs))) → P (site_of other xs) → P (site_of other (at_site name change xs))
at_split P name other change [] keeps own off = off
at_split P name other change (x ∷ xs) keeps own off = go (at_split P name other change xs keeps) (is_same_site x.here.site name) refl (is_same_site x.here.site other) refl own off
  where
    Rest : Type 0
    Rest = (name ≡ other → P (option_map change (site_of other xs))) → P (site_of other xs) → P (site_of other (at_site name change xs))

    changed : (c : Bool) → is_same_site x.here.site name ≡ true → is_same_site x.here.site other ≡ c
        → (name ≡ other → P (option_map change (cond c (Some x) (site_of other xs)))) → P (cond c (Some x) (site_of other xs)) → P (cond (is_same_site (change x).here.site other) (Some (change x)) (site_of other xs))
    changed true is_name is_other own off =
        let names : name ≡ other = sym (is_same_site-true x.here.site name is_name) ∙ is_same_site-true x.here.site other is_other in
        rw (same_test change keeps x other, is_other) (own names)
    changed false is_name is_other own off = rw (same_test change keeps x other, is_other) off

    unchanged : (c : Bool) → Rest → (name ≡ other → P (option_map change (cond c (Some x) (site_of other xs)))) → P (cond c (Some x) (site_of other xs)) → P (cond c (Some x) (site_of other (at_site name change xs)))
    unchanged true rest own off = off
    unchanged false rest own off = rest own off

    go : Rest → (b : Bool) → is_same_site x.here.site name ≡ b → (c : Bool) → is_same_site x.here.site other ≡ c
        → (name ≡ other → P (option_map change (cond (is_same_site x.here.site other) (Some x) (site_of other xs)))) → P (cond (is_same_site x.here.site other) (Some x) (site_of other xs))
        → P (site_of other (cond b (change x ∷ xs) (x ∷ at_site name change xs)))
    go rest true is_name c is_other own off = changed c is_name is_other (λ e. rw (← is_other) (own e)) (rw (← is_other) off)
    go rest false is_name c is_other own off = rw is_other (unchanged c rest (λ e. rw (← is_other) (own e)) (rw (← is_other) off))

-- the site that changed is found by its name
pub found_changed : (name : SiteName) (change : SiteState → SiteState) (sites : List SiteState) (x : SiteState) → KeepsHere change → site_of name sites ≡ Some x → site_of name (at_site name change sites) ≡ Some (change x)
found_changed name change [] x keeps found = absurd (cc found)
found_changed name change (s ∷ ss) x keeps found = go (is_same_site s.here.site name) refl found (found_changed name change ss x keeps)
  where
    go : (b : Bool) → is_same_site s.here.site name ≡ b → cond b (Some s) (site_of name ss) ≡ Some x → (site_of name ss ≡ Some x → site_of name (at_site name change ss) ≡ Some (change x))
        → site_of name (cond b (change s ∷ ss) (s ∷ at_site name change ss)) ≡ Some (change x)
    go true is found later =
        let same : s ≡ x = cc in
        let still : is_same_site (change s).here.site name ≡ true = rw (keeps s) is in
        rw (still, same) refl
    go false is found later = rw is (later found)

-- another one is as it was
pub found_other : (name other : SiteName) (change : SiteState → SiteState) (sites : List SiteState) → KeepsHere change → is_same_site name other ≡ false → site_of other (at_site name change sites) ≡ site_of other sites
found_other name other change sites keeps differ =
    at_split (λ (o : Option SiteState). o ≡ site_of other sites) name other change sites keeps
    (λ same. absurd (true≢false (sym (is_same_site-refl name) ∙ ap (is_same_site name) same ∙ differ))) refl

-- a change of it that is none changes nothing
pub at_same : (name : SiteName) (change : SiteState → SiteState) (xs : List SiteState) → ((x : SiteState) → change x ≡ x) → at_site name change xs ≡ xs
at_same name change [] same = refl
at_same name change (x ∷ xs) same = go (is_same_site x.here.site name) (at_same name change xs same)
  where
    go : (b : Bool) → at_site name change xs ≡ xs → cond b (change x ∷ xs) (x ∷ at_site name change xs) ≡ x ∷ xs
    go true later = ap (λ (y : SiteState). y ∷ xs) (same x)
    go false later = ap (λ (ys : List SiteState). x ∷ ys) later

-- one change of it and then another
pub at_twice : (name : SiteName) (f g : SiteState → SiteState) (xs : List SiteState) → KeepsHere f → at_site name g (at_site name f xs) ≡ at_site name (λ x. g (f x)) xs
at_twice name f g [] keeps = refl
at_twice name f g (x ∷ xs) keeps = go (is_same_site x.here.site name) refl (at_twice name f g xs keeps)
  where
    go : (b : Bool) → is_same_site x.here.site name ≡ b → at_site name g (at_site name f xs) ≡ at_site name (λ x. g (f x)) xs
        → at_site name g (cond b (f x ∷ xs) (x ∷ at_site name f xs)) ≡ cond b (g (f x) ∷ xs) (x ∷ at_site name (λ x. g (f x)) xs)
    go true is later = rw (same_test f keeps x name, is) refl
    go false is later = rw is (ap (λ (zs : List SiteState). x ∷ zs) later)

abbrev pub found_or : Option SiteState → Option SiteState → Option SiteState
found_or other None = other
found_or other (Some x) = Some x

-- the site of a name, where all sites changed and one came
pub site_of-joined : (name : SiteName) (change : SiteState → SiteState) (xs : List SiteState) (new : SiteState) → KeepsHere change
    → site_of name (map change xs ++ new ∷ []) ≡ found_or (site_of name (new ∷ [])) (option_map change (site_of name xs))
site_of-joined name change [] new keeps = refl
site_of-joined name change (x ∷ xs) new keeps = rw (same_test change keeps x name) (go (is_same_site x.here.site name) (site_of-joined name change xs new keeps))
  where
    go : (b : Bool) → site_of name (map change xs ++ new ∷ []) ≡ found_or (site_of name (new ∷ [])) (option_map change (site_of name xs))
        → cond b (Some (change x)) (site_of name (map change xs ++ new ∷ [])) ≡ found_or (site_of name (new ∷ [])) (option_map change (cond b (Some x) (site_of name xs)))
    go true later = refl
    go false later = later

-- a site that is found has the name
pub found_name : (name : SiteName) (xs : List SiteState) (x : SiteState) → site_of name xs ≡ Some x → x.here.site ≡ name
found_name name [] x found = absurd (cc found)
found_name name (y ∷ ys) x found = go (is_same_site y.here.site name) refl (found_name name ys x) found
  where
    go : (b : Bool) → is_same_site y.here.site name ≡ b → (site_of name ys ≡ Some x → x.here.site ≡ name) → cond b (Some y) (site_of name ys) ≡ Some x → x.here.site ≡ name
    go true is later found = let same : y ≡ x = cc found in rw (← same) (is_same_site-true y.here.site name is)
    go false is later found = later found

-- and by its own name it is found
pub found_again : (name : SiteName) (xs : List SiteState) (x : SiteState) → site_of name xs ≡ Some x → site_of x.here.site xs ≡ Some x
found_again name xs x found = subst (λ (n : SiteName). site_of n xs ≡ Some x) (sym (found_name name xs x found)) found

-- ---- what holds of each site

-- it holds of the one that is found
pub found_all : (P : SiteState → Type 0) (name : SiteName) (xs : List SiteState) (x : SiteState) → AllByRecursion P xs → site_of name xs ≡ Some x → P x
found_all P name [] x all found = absurd (cc found)
found_all P name (y ∷ ys) x all found = go (is_same_site y.here.site name) (found_all P name ys x all.1) found
  where
    go : (b : Bool) → (site_of name ys ≡ Some x → P x) → cond b (Some y) (site_of name ys) ≡ Some x → P x
    go true later found = let same : y ≡ x = cc found in rw (← same) all.0
    go false later found = later found

-- it goes on to hold where one changes
pub all_at : (P : SiteState → Type 0) (name : SiteName) (change : SiteState → SiteState) (xs : List SiteState) → ((x : SiteState) → P x → P (change x)) → AllByRecursion P xs → AllByRecursion P (at_site name change xs)
all_at P name change [] keeps all = tt
all_at P name change (x ∷ xs) keeps all = go (is_same_site x.here.site name) (all_at P name change xs keeps all.1)
  where
    go : (b : Bool) → AllByRecursion P (at_site name change xs) → AllByRecursion P (cond b (change x ∷ xs) (x ∷ at_site name change xs))
    go true later = (keeps x all.0, all.1)
    go false later = (all.0, later)

-- where all change and one comes
pub all_joined : (P : SiteState → Type 0) (change : SiteState → SiteState) (xs : List SiteState) (new : SiteState) → ((x : SiteState) → P x → P (change x)) → P new → AllByRecursion P xs → AllByRecursion P (map change xs ++ new ∷ [])
all_joined P change [] new keeps is all = (is, tt)
all_joined P change (x ∷ xs) new keeps is all = (keeps x all.0, all_joined P change xs new keeps is all.1)

-- what holds of each of a list holds at each place
pub all_at_place : {X : Type 0} (P : X → Type 0) (xs : List X) (place : ℕ) (x : X) → AllByRecursion P xs → slice_get xs place ≡ Some x → P x
all_at_place P [] place x all found = grind arith
all_at_place P (y ∷ xs) zero x all found = grind arith
all_at_place P (y ∷ xs) (suc place) x all found = all_at_place P xs place x all.1 found
