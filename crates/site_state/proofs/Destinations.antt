-- Destinations that are opened or acknowledge more.
use Rattle.std.proofs.Common.{◌≡◌, ℕ, ◌≤◌, List, [], ◌∷◌, Bool, true, false, cond, Some, None, refl, sym, ap, ◌∙◌, arith, inl, inr}
use Rattle.std.specs.Prelude.{◌⊎◌, Option}
use Rattle.rep_values.specs.declared.name.SiteName.{SiteName}
use Rattle.rep_values.specs.SiteNames.{is_same_site}
use Rattle.deferred_queue.proofs.Sites.{is_same_site-true}
use Rattle.site_state.specs.State.{DestinationState, destination_of, at_destination, opened_in, acked_in}
use Rattle.site_state.specs.Packets.{acknowledged}
use Rattle.site_state.specs.Joining.{opened_from, opened_at}

-- ---- one destination of several

-- what changes a destination leaves its name
abbrev pub KeepsSite : (DestinationState → DestinationState) → Type 0
KeepsSite change = (d : DestinationState) → (change d).site ≡ d.site

-- the destination of a name, where one of them changed: it, or another one as it was
pub destination_split : (P : Option DestinationState → Type 0) (to site : SiteName) (change : DestinationState → DestinationState) (ds : List DestinationState) → KeepsSite change
    → ((d : DestinationState) → to ≡ site → destination_of site ds ≡ Some d → P (Some (change d))) → P (destination_of site ds) → P (destination_of site (at_destination to change ds))
destination_split P to site change [] keeps own other = other
destination_split P to site change (d ∷ ds) keeps own other = go (is_same_site d.site to) refl (is_same_site d.site site) refl (destination_split P to site change ds keeps) own other
  where
    Rest : Type 0
    Rest = ((e : DestinationState) → to ≡ site → destination_of site ds ≡ Some e → P (Some (change e))) → P (destination_of site ds) → P (destination_of site (at_destination to change ds))

    same : is_same_site (change d).site site ≡ is_same_site d.site site
    same = ap (λ (s : SiteName). is_same_site s site) (keeps d)

    go : (b : Bool) → is_same_site d.site to ≡ b → (c : Bool) → is_same_site d.site site ≡ c → Rest
        → ((e : DestinationState) → to ≡ site → cond (is_same_site d.site site) (Some d) (destination_of site ds) ≡ Some e → P (Some (change e)))
        → P (cond (is_same_site d.site site) (Some d) (destination_of site ds)) → P (destination_of site (cond b (change d ∷ ds) (d ∷ at_destination to change ds)))
    go true is_to true is_site rest own other =
        let names : to ≡ site = sym (is_same_site-true d.site to is_to) ∙ is_same_site-true d.site site is_site in
        rw (same, is_site) (own d names (rw is_site refl))
    go true is_to false is_site rest own other = rw (same, is_site) (rw is_site at other)
    go false is_to true is_site rest own other = rw is_site (rw is_site at other)
    go false is_to false is_site rest own other = rw is_site (rest (λ e names found. own e names (rw is_site found)) (rw is_site at other))

-- ---- a mark

acknowledged_keeps : (mark : ℕ) → KeepsSite (acknowledged mark)
acknowledged_keeps mark d = refl

-- a mark opens nothing and closes nothing
pub opened_in-acknowledged : (site from : SiteName) (mark : ℕ) (ds : List DestinationState)
    → opened_in (destination_of site (at_destination from (acknowledged mark) ds)) ≡ opened_in (destination_of site ds)
opened_in-acknowledged site from mark ds =
    destination_split (λ o. opened_in o ≡ opened_in (destination_of site ds)) from site (acknowledged mark) ds (acknowledged_keeps mark) (λ d names found. rw found refl) refl

-- nobody has acknowledged less than before
pub acked_in-rises : (site from : SiteName) (mark : ℕ) (ds : List DestinationState)
    → acked_in (destination_of site ds) ≤ acked_in (destination_of site (at_destination from (acknowledged mark) ds))
acked_in-rises site from mark ds =
    destination_split (λ o. acked_in (destination_of site ds) ≤ acked_in o) from site (acknowledged mark) ds (acknowledged_keeps mark) (λ d names found. rw found (omega arith)) (omega arith)

-- what is acknowledged is what was, or the mark
pub acked_in-acknowledged : (site from : SiteName) (mark n : ℕ) (ds : List DestinationState) → (from ≡ site → mark ≤ n) → acked_in (destination_of site ds) ≤ n
    → acked_in (destination_of site (at_destination from (acknowledged mark) ds)) ≤ n
acked_in-acknowledged site from mark n ds new old =
    destination_split (λ o. acked_in o ≤ n) from site (acknowledged mark) ds (acknowledged_keeps mark)
    (λ d names found. let before : d.acked ≤ n = rw found at old in omega (arith, before, new names)) old

-- ---- an opening

opened_at_keeps : (count : ℕ) → KeepsSite (opened_at count)
opened_at_keeps count d = refl

-- an opening acknowledges nothing
pub acked_in-opened : (site to : SiteName) (count : ℕ) (ds : List DestinationState) → acked_in (destination_of site (at_destination to (opened_at count) ds)) ≡ acked_in (destination_of site ds)
acked_in-opened site to count ds =
    destination_split (λ o. acked_in o ≡ acked_in (destination_of site ds)) to site (opened_at count) ds (opened_at_keeps count) (λ d names found. rw found refl) refl

-- a destination is open as it was, or it wasn't and is so from this count on
abbrev pub IsOpenedFrom : ℕ → Option ℕ → Option ℕ → Type 0
IsOpenedFrom count before after = (after ≡ before) ⊎ ((before ≡ None) × (after ≡ Some count))

opened_from-is : (count : ℕ) (before : Option ℕ) → IsOpenedFrom count before (opened_from before count)
opened_from-is count None = inr (refl, refl)
opened_from-is count (Some n) = inl refl

pub opened_in-opened : (site to : SiteName) (count : ℕ) (ds : List DestinationState)
    → IsOpenedFrom count (opened_in (destination_of site ds)) (opened_in (destination_of site (at_destination to (opened_at count) ds)))
opened_in-opened site to count ds =
    destination_split (λ o. IsOpenedFrom count (opened_in (destination_of site ds)) (opened_in o)) to site (opened_at count) ds (opened_at_keeps count)
    (λ d names found. rw found (opened_from-is count d.opened)) (inl refl)

-- what is open stays so, from the same count on
pub opened_from_stays : (count : ℕ) (before after : Option ℕ) (n : ℕ) → IsOpenedFrom count before after → before ≡ Some n → after ≡ Some n
opened_from_stays count before after n is open_before = elim is [
  | inl same ↦ same ∙ open_before
  | inr now ↦ absurd (cc (now.0, open_before))
]

-- another destination than the one that is opened is as it was
pub opened_in-other : (site to : SiteName) (count : ℕ) (ds : List DestinationState) → is_same_site to site ≡ false
    → opened_in (destination_of site (at_destination to (opened_at count) ds)) ≡ opened_in (destination_of site ds)
opened_in-other site to count [] off = refl
opened_in-other site to count (d ∷ ds) off = go (is_same_site d.site to) refl (is_same_site d.site site) refl (opened_in-other site to count ds off)
  where
    go : (b : Bool) → is_same_site d.site to ≡ b → (c : Bool) → is_same_site d.site site ≡ c → opened_in (destination_of site (at_destination to (opened_at count) ds)) ≡ opened_in (destination_of site ds)
        → opened_in (destination_of site (cond b (opened_at count d ∷ ds) (d ∷ at_destination to (opened_at count) ds))) ≡ opened_in (cond (is_same_site d.site site) (Some d) (destination_of site ds))
    go true is_to true is_site later =
        let names : to ≡ d.site = sym (is_same_site-true d.site to is_to) in
        let here : is_same_site to site ≡ true = rw names is_site in absurd (cc (here, off))
    go true is_to false is_site later = rw is_site refl
    go false is_to true is_site later = rw is_site refl
    go false is_to false is_site later = rw is_site later

-- the destination that is opened is open from then on, where it is one
pub opened_in-own : (site : SiteName) (count : ℕ) (ds : List DestinationState) (d : DestinationState) → destination_of site ds ≡ Some d
    → opened_in (destination_of site (at_destination site (opened_at count) ds)) ≡ opened_from d.opened count
opened_in-own site count [] d found = absurd (cc found)
opened_in-own site count (e ∷ ds) d found = go (is_same_site e.site site) refl found (opened_in-own site count ds d)
  where
    go : (b : Bool) → is_same_site e.site site ≡ b → cond b (Some e) (destination_of site ds) ≡ Some d
        → (destination_of site ds ≡ Some d → opened_in (destination_of site (at_destination site (opened_at count) ds)) ≡ opened_from d.opened count)
        → opened_in (destination_of site (cond b (opened_at count e ∷ ds) (e ∷ at_destination site (opened_at count) ds))) ≡ opened_from d.opened count
    go true is found later = let same : e ≡ d = cc found in rw (is, same) refl
    go false is found later = rw is (later found)
