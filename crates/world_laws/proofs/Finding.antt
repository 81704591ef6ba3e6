-- One site of several, and changes of it in a row.
use Rattle.std.proofs.Common.{◌≡◌, List, [], ◌∷◌, Bool, true, false, cond, Some, None, refl, ap}
use Rattle.std.specs.Prelude.{◌≢◌, Option}
use Rattle.rep_values.specs.declared.name.SiteName.{SiteName}
use Rattle.rep_values.specs.SiteNames.{is_same_site}
use Rattle.txn_effects.specs.declared.local.Here.{Here}
use Rattle.site_state.specs.State.{SiteState}
use Rattle.site_events.specs.Cluster.{site_of, at_site}
use Rattle.event_laws.proofs.Sites.{KeepsHere, at_split}

same_name : (f : SiteState → SiteState) → KeepsHere f → (x : SiteState) (name : SiteName) → is_same_site (f x).here.site name ≡ is_same_site x.here.site name
same_name f keeps x name = ap (λ (h : Here). is_same_site h.site name) (keeps x)

-- a site that isn't there doesn't change
pub at_none : (name : SiteName) (f : SiteState → SiteState) (xs : List SiteState) → site_of name xs ≡ None → at_site name f xs ≡ xs
at_none name f [] none = refl
at_none name f (x ∷ xs) none = go (is_same_site x.here.site name) (at_none name f xs) none
  where
    go : (b : Bool) → (site_of name xs ≡ None → at_site name f xs ≡ xs) → cond b (Some x) (site_of name xs) ≡ None → cond b (f x ∷ xs) (x ∷ at_site name f xs) ≡ x ∷ xs
    go true later none = absurd (cc none)
    go false later none = ap (λ (ys : List SiteState). x ∷ ys) (later none)

-- what a change does elsewhere doesn't matter
pub at_found : (name : SiteName) (f g : SiteState → SiteState) (xs : List SiteState) (x : SiteState) → site_of name xs ≡ Some x → f x ≡ g x → at_site name f xs ≡ at_site name g xs
at_found name f g [] x found same = refl
at_found name f g (y ∷ ys) x found same = go (is_same_site y.here.site name) (at_found name f g ys x) found
  where
    go : (b : Bool) → (site_of name ys ≡ Some x → f x ≡ g x → at_site name f ys ≡ at_site name g ys) → cond b (Some y) (site_of name ys) ≡ Some x
        → cond b (f y ∷ ys) (y ∷ at_site name f ys) ≡ cond b (g y ∷ ys) (y ∷ at_site name g ys)
    go true later found = let is : y ≡ x = cc found in rw (is, same) refl
    go false later found = ap (λ (zs : List SiteState). y ∷ zs) (later found same)

-- what is found after a change
pub of_at : (name : SiteName) (f : SiteState → SiteState) (xs : List SiteState) (x : SiteState) → KeepsHere f → site_of name xs ≡ Some x → site_of name (at_site name f xs) ≡ Some (f x)
of_at name f [] x keeps found = absurd (cc found)
of_at name f (y ∷ ys) x keeps found = go (is_same_site y.here.site name) refl (of_at name f ys x keeps) found
  where
    go : (b : Bool) → is_same_site y.here.site name ≡ b → (site_of name ys ≡ Some x → site_of name (at_site name f ys) ≡ Some (f x)) → cond b (Some y) (site_of name ys) ≡ Some x
        → site_of name (cond b (f y ∷ ys) (y ∷ at_site name f ys)) ≡ Some (f x)
    go true is later found = let same : y ≡ x = cc found in rw (same_name f keeps y name, is) (ap (λ (z : SiteState). Some (f z)) same)
    go false is later found = rw is (later found)

-- another site is as it was
pub of_other : (name other : SiteName) (f : SiteState → SiteState) (xs : List SiteState) → KeepsHere f → name ≢ other → site_of other (at_site name f xs) ≡ site_of other xs
of_other name other f xs keeps off = at_split (λ (o : Option SiteState). o ≡ site_of other xs) name other f xs keeps (λ e. absurd (off e)) refl
