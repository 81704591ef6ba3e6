-- Origins of which nothing is ready.
use Rattle.std.proofs.Common.{◌≡◌, ℕ, zero, suc, ◌+◌, ◌<◌, ◌≤◌, List, [], ◌∷◌, length, Bool, true, false, cond, Some, None, get_or, refl, sym, ap, ◌∙◌, subst, arith}
use Rattle.std.specs.Prelude.{Option, ◌||◌, ◌&&◌, nat_lt, slice_get, IfSome}
use Rattle.std.specs.List.{AllByRecursion, list_any}
use Rattle.std.proofs.lemmas.Bool.{or_left, or_right}
use Rattle.std.proofs.lemmas.Bool.Decides.{nat_tests}
use Rattle.std.proofs.lemmas.Option.{slice_get-get_or}
use Rattle.rep_values.specs.declared.name.SiteName.{SiteName}
use Rattle.rep_values.specs.SiteNames.{is_same_site}
use Rattle.deferred_queue.proofs.Sites.{is_same_site-true, is_same_site-refl}
use Rattle.site_state.specs.declared.arrival.Arrival.{Arrival}
use Rattle.site_state.specs.State.{SiteState, arrivals}
use Rattle.rep_schema.specs.Sites.{is_among}
use Rattle.site_state.specs.Ready.{is_ready, first_ready, first_ready_in}
use Rattle.live_laws.specs.Turns.{NothingReadyOf}
use Rattle.live_laws.proofs.ReadyTurns.{nothing_ready_of}
use Rattle.live_streams.specs.Quiet.{OriginIsQuiet, IsQuietAt, AreQuietBefore}

module _ (origin : SiteName) (x : SiteState) where
  none_above : (arrived : List Arrival) → AllByRecursion (λ (a : Arrival). 1 ≤ a.position) arrived → first_ready_in origin 0 x arrived ≡ None → list_any (λ (a : Arrival). is_ready origin a.position x) arrived ≡ false
  none_above [] from_one none = refl
  none_above (a ∷ arrived) from_one none = go (nat_lt 0 a.position) (grind (arith, nat_tests, from_one.0)) (is_ready origin a.position x) none (none_above arrived from_one.1)
    where
      go : (above : Bool) → above ≡ true → (ready : Bool) → cond (above && ready) (Some a.position) (first_ready_in origin 0 x arrived) ≡ None
          → (first_ready_in origin 0 x arrived ≡ None → list_any (λ (b : Arrival). is_ready origin b.position x) arrived ≡ false)
          → (ready || list_any (λ (b : Arrival). is_ready origin b.position x) arrived) ≡ false
      go true is true none later = absurd (cc none)
      go true is false none later = later none
      go false is ready none later = absurd (cc is)

  ready_above : (arrived : List Arrival) (position : ℕ) → first_ready_in origin 0 x arrived ≡ Some position → is_ready origin position x ≡ true
  ready_above [] position is = absurd (cc is)
  ready_above (a ∷ arrived) position is = go (nat_lt 0 a.position) (is_ready origin a.position x) refl is (ready_above arrived position)
    where
      go : (above ready : Bool) → is_ready origin a.position x ≡ ready → cond (above && ready) (Some a.position) (first_ready_in origin 0 x arrived) ≡ Some position
          → (first_ready_in origin 0 x arrived ≡ Some position → is_ready origin position x ≡ true) → is_ready origin position x ≡ true
      go true true ready is later = let same : a.position ≡ position = cc is in subst (λ (p : ℕ). is_ready origin p x ≡ true) same ready
      go true false ready is later = later is
      go false b ready is later = later is

  -- the least ready position is ready
  pub ready_where_some : (found : Option ℕ) → found ≡ first_ready origin 0 x → IfSome found (λ position. is_ready origin position x ≡ true)
  ready_where_some None is = tt
  ready_where_some (Some position) is = ready_above (arrivals origin x) position (sym is)

  -- where there is no least ready position, none is ready
  pub quiet_where_none : AllByRecursion (λ (a : Arrival). 1 ≤ a.position) (arrivals origin x) → first_ready origin 0 x ≡ None → OriginIsQuiet origin x
  quiet_where_none from_one none position =
      nothing_ready_of (origin ∷ []) x (rw (none_above (arrivals origin x) from_one none) refl) origin position (rw (is_same_site-refl origin) refl)

-- where the origin at each place is quiet, all are
pub each_place_is_quiet : (origins : List SiteName) (x : SiteState) → AreQuietBefore (length origins) origins x → NothingReadyOf origins x
each_place_is_quiet [] x quiet origin position among = absurd (cc among)
each_place_is_quiet (name ∷ names) x quiet origin position among = go (is_same_site name origin) refl among
    (λ among. each_place_is_quiet names x (λ place within. quiet (suc place) (omega (arith, within))) origin position among)
  where
    go : (b : Bool) → is_same_site name origin ≡ b → (b || is_among names origin) ≡ true → (is_among names origin ≡ true → is_ready origin position x ≡ false) → is_ready origin position x ≡ false
    go true same among later = subst (λ (n : SiteName). is_ready n position x ≡ false) (is_same_site-true name origin same) (quiet 0 (omega arith) name refl position)
    go false other among later = later among

-- a place beyond the last has no origin
pub none_beyond : {X : Type 0} (xs : List X) (place : ℕ) → length xs ≤ place → slice_get xs place ≡ None
none_beyond [] place beyond = refl
none_beyond (x ∷ xs) zero beyond = absurd (omega (arith, beyond))
none_beyond (x ∷ xs) (suc place) beyond = none_beyond xs place (omega (arith, beyond))

-- where something stands, the place is within
pub place_within : {X : Type 0} (xs : List X) (place : ℕ) (x : X) → slice_get xs place ≡ Some x → place < length xs
place_within {X = X} [] place x is = absurd (cc (none_beyond {X = X} [] place (omega arith), is))
place_within (y ∷ xs) zero x is = omega arith
place_within (y ∷ xs) (suc place) x is = omega (arith, place_within xs place x is)

-- what a look-up finds stands there
pub got_at : {X : Type 0} (xs : List X) (place : ℕ) (x : X) → place < length xs → x ≡ get_or xs place x → slice_get xs place ≡ Some x
got_at xs place x within is = slice_get-get_or xs place x within ∙ ap Some (sym is)

-- the origin at a place is one of the origins
pub among_at : (origins : List SiteName) (place : ℕ) (origin : SiteName) → slice_get origins place ≡ Some origin → is_among origins origin ≡ true
among_at [] place origin is = absurd (cc (none_beyond {X = SiteName} [] place (omega arith), is))
among_at (name ∷ names) zero origin is = let same : name ≡ origin = cc is in or_left (is_same_site name origin) (is_among names origin) (subst (λ (n : SiteName). is_same_site n origin ≡ true) (sym same) (is_same_site-refl origin))
among_at (name ∷ names) (suc place) origin is = or_right (is_same_site name origin) (is_among names origin) (among_at names place origin is)

-- one place more is quiet
pub quiet_one_more : (origins : List SiteName) (x : SiteState) (end : ℕ) → AreQuietBefore end origins x → IsQuietAt end origins x → AreQuietBefore (end + 1) origins x
quiet_one_more origins x end before here place within = go (nat_lt place end) refl
  where
    go : (b : Bool) → nat_lt place end ≡ b → IsQuietAt place origins x
    go true less = before place (grind (arith, nat_tests))
    go false beyond = let same : end ≡ place = grind (arith, nat_tests) in subst (λ (k : ℕ). IsQuietAt k origins x) same here
