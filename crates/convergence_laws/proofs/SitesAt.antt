-- What holds of each site that is found by a name, where one of them changes or one joins.
use Rattle.std.proofs.Common.{◌≡◌, ℕ, List, [], ◌∷◌, Bool, true, false, cond, Some, None, refl, sym, ◌∙◌, ap, subst}
use Rattle.std.specs.Prelude.{Option}
use Rattle.std.specs.Option.{option_map}
use Rattle.rep_values.specs.declared.name.SiteName.{SiteName}
use Rattle.rep_values.specs.SiteNames.{is_same_site}
use Rattle.deferred_queue.proofs.Sites.{is_same_site-true}
use Rattle.site_state.specs.State.{SiteState}
use Rattle.site_state.specs.Joining.{site_open}
use Rattle.site_events.specs.Cluster.{site_of, at_site}
use Rattle.site_events.specs.Joins.{copied, with_joined}
use Rattle.event_laws.proofs.Sites.{KeepsHere, at_split, found_changed, found_other, found_or, site_of-joined, found_all}
use Rattle.event_laws.proofs.NewSites.{copied_here}
use Rattle.site_state.specs.declared.entry.Entry.{Entry}
use Rattle.site_state.specs.declared.entry.Entry.TheVariants.{Local, Refreshed}
use Rattle.site_state.proofs.Stepping.{MayFollow}
use Rattle.convergence_laws.proofs.Turns.{Turn, Same, Own, Did, Left, Renewed, Frame, Cause, Now, Late}

-- it holds of each
abbrev pub Each : (SiteState → Type 0) → List SiteState → Type 0
Each P sites = (name : SiteName) (x : SiteState) → site_of name sites ≡ Some x → P x

pub turn_frame : (x y : SiteState) → Turn x y → Frame x y
turn_frame x y (Same f base journal last) = f
turn_frame x y (Own f base number statements block is journal last) = f
turn_frame x y (Did f base e origin position txn effect cause gives journal last) = f
turn_frame x y (Left f base e left follows journal last) = f
turn_frame x y (Renewed f plain moment journal last) = f

pub turns_here : (change : SiteState → SiteState) → ((x : SiteState) → Turn x (change x)) → KeepsHere change
turns_here change turns x = (turn_frame x (change x) (turns x)).here

pub at_each : (P : SiteState → Type 0) (name : SiteName) (change : SiteState → SiteState) (sites : List SiteState) → KeepsHere change
    → ((x : SiteState) → site_of name sites ≡ Some x → P x → P (change x)) → Each P sites → Each P (at_site name change sites)
at_each P name change sites here keeps all site x found =
    at_split (λ (o : Option SiteState). (y : SiteState) → o ≡ Some y → P y) name site change sites here
    (λ same. own (site_of site sites) (ap (λ n. site_of n sites) same)) (λ y is. all site y is) x found
  where
    own : (o : Option SiteState) → site_of name sites ≡ o → (y : SiteState) → option_map change o ≡ Some y → P y
    own None is y e = cc
    own (Some z) is y e = let same : change z ≡ y = cc in subst P same (keeps z is (all name z is))

pub joined_each : (P : SiteState → Type 0) (sites : List SiteState) (source : SiteState) (site : SiteName) → ((x : SiteState) → P x → P (site_open site x)) → P (copied sites source site)
    → Each P sites → Each P (with_joined sites source site)
joined_each P sites source site opens new all name y found =
    go (site_of name sites) refl (sym (site_of-joined name (site_open site) sites (copied sites source site) (λ x. refl)) ∙ found)
  where
    go : (o : Option SiteState) → site_of name sites ≡ o → found_or (site_of name (copied sites source site ∷ [])) (option_map (site_open site) o) ≡ Some y → P y
    go (Some z) is e = let same : site_open site z ≡ y = cc in subst P same (opens z (all name z is))
    go None is e = found_all P name (copied sites source site ∷ []) y (new, tt) e

-- where no site has the name nothing changes
pub at_none : (name : SiteName) (change : SiteState → SiteState) (sites : List SiteState) → site_of name sites ≡ None → at_site name change sites ≡ sites
at_none name change [] none = refl
at_none name change (s ∷ ss) none = go (is_same_site s.here.site name) none (at_none name change ss)
  where
    go : (b : Bool) → cond b (Some s) (site_of name ss) ≡ None → (site_of name ss ≡ None → at_site name change ss ≡ ss) → cond b (change s ∷ ss) (s ∷ at_site name change ss) ≡ s ∷ ss
    go true none later = cc
    go false none later = ap (λ rest. s ∷ rest) (later none)

-- a site that is there has a turn, if only one that changes nothing
stays : (x : SiteState) → Turn x x
stays x = Same (record { schema = refl; here = refl; opened = λ site. refl }) refl refl refl

pub record IsThere (name : SiteName) (others : List SiteState) (x : SiteState) : Type 0 where
  pub site : SiteState
  pub found : site_of name others ≡ Some site
  pub turn : Turn x site

pub is_there : (at : SiteName) (change : SiteState → SiteState) (turns : (x : SiteState) → Turn x (change x)) (sites : List SiteState) (name : SiteName) (x : SiteState) → site_of name sites ≡ Some x → IsThere name (at_site at change sites) x
is_there at change turns sites name x found = go (is_same_site at name) refl
  where
    go : (b : Bool) → is_same_site at name ≡ b → IsThere name (at_site at change sites) x
    go true same =
        let is = is_same_site-true at name same in
        record { site = change x; found = subst (λ n. site_of n (at_site at change sites) ≡ Some (change x)) is (found_changed at change sites x (turns_here change turns) (subst (λ n. site_of n sites ≡ Some x) (sym is) found)); turn = turns x }
    go false other = record { site = x; found = found_other at name change sites (turns_here change turns) other ∙ found; turn = stays x }

-- and one that is there now was there before
pub record WasThere (name : SiteName) (sites : List SiteState) (y : SiteState) : Type 0 where
  pub site : SiteState
  pub found : site_of name sites ≡ Some site
  pub turn : Turn site y

pub was_there : (at : SiteName) (change : SiteState → SiteState) (turns : (x : SiteState) → Turn x (change x)) (sites : List SiteState) (name : SiteName) (y : SiteState) → site_of name (at_site at change sites) ≡ Some y → WasThere name sites y
was_there at change turns sites name y found = go (site_of name sites) refl
  where
    some_same : (x z : SiteState) → Some x ≡ Some z → x ≡ z
    some_same x z e = cc

    still : site_of name sites ≡ None → ⊥
    still none = at_split (λ (o : Option SiteState). o ≡ Some y → ⊥) at name change sites (turns_here change turns)
        (λ same e. nothing (ap (option_map change) (sym none) ∙ e)) (λ e. nothing (sym none ∙ e)) found
      where
        nothing : None ≡ Some y → ⊥
        nothing e = cc

    go : (o : Option SiteState) → site_of name sites ≡ o → WasThere name sites y
    go None none = absurd (still none)
    go (Some x) is =
        let there = is_there at change turns sites name x is in
        record { site = x; found = is; turn = subst (Turn x) (some_same there.site y (sym there.found ∙ found)) there.turn }

-- what a turn enters in the journal: nothing, or an entry that may follow
pub data Entered (x : SiteState) : List Entry → Type 0 where
  Nothing : Entered x x.journal
  One : (e : Entry) → MayFollow x e → Entered x (e ∷ x.journal)

pub turn_enters : (x y : SiteState) → Turn x y → Entered x y.journal
turn_enters x y (Same f base journal last) = rw journal Nothing
turn_enters x y (Own f base number statements block is journal last) = rw journal (One (Local number _) tt)
turn_enters x y (Did f base e origin position txn effect cause gives journal last) = rw journal (One e (by cause))
  where
    by : {number : ℕ} {e : Entry} → Cause x origin position number txn e → MayFollow x e
    by (Now is) = is
    by (Late er at is) = λ none. absurd (cc (none, at))
turn_enters x y (Left f base e left follows journal last) = rw journal (One e follows)
turn_enters x y (Renewed f plain moment journal last) = rw journal (One (Refreshed moment) tt)

-- a site that is there where a master joined is the master, or was there before
pub data WasJoined (sites : List SiteState) (source : SiteState) (site name : SiteName) : SiteState → Type 0 where
  Old : (x : SiteState) → site_of name sites ≡ Some x → WasJoined sites source site name (site_open site x)
  New : name ≡ site → WasJoined sites source site name (copied sites source site)

pub was_joined : (sites : List SiteState) (source : SiteState) (site name : SiteName) (y : SiteState) → site_of name (with_joined sites source site) ≡ Some y → WasJoined sites source site name y
was_joined sites source site name y found = go (site_of name sites) refl (sym (site_of-joined name (site_open site) sites (copied sites source site) (λ x. refl)) ∙ found)
  where
    by : (b : Bool) → is_same_site (copied sites source site).here.site name ≡ b → cond b (Some (copied sites source site)) None ≡ Some y → WasJoined sites source site name y
    by true same e =
        let is : copied sites source site ≡ y = cc in
        subst (WasJoined sites source site name) is
        (New (sym (is_same_site-true (copied sites source site).here.site name same) ∙ ap (λ h. h.site) (copied_here sites source site)))
    by false same e = cc

    go : (o : Option SiteState) → site_of name sites ≡ o → found_or (site_of name (copied sites source site ∷ [])) (option_map (site_open site) o) ≡ Some y → WasJoined sites source site name y
    go (Some x) is e = let same : site_open site x ≡ y = cc in subst (WasJoined sites source site name) same (Old x is)
    go None is e = by (is_same_site (copied sites source site).here.site name) refl e
