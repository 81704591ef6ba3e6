-- The place of a direction among several, and what a change there is.
use Rattle.std.proofs.Common.{◌≡◌, ◌≢◌, ℕ, suc, ◌<◌, Bool, true, false, cond, List, [], ◌∷◌, length, get_or, set, Some, None, refl, sym, ap, ◌∙◌, arith}
use Rattle.rep_values.specs.declared.name.SiteName.{SiteName}
use Rattle.net_plan.specs.Directions.{Direction, HasDirection, is_between, direction_of, at_direction, place_between}

module _ (from to : SiteName) where
  -- a direction that is there has a place within the list
  pub place_between-within : (ds : List Direction) → HasDirection ds from to → place_between from to ds < length ds
  place_between-within [] has = absurd (has refl)
  place_between-within (d ∷ ds) has = go (is_between from to d) (place_between-within ds) has
    where
      go : (b : Bool) → (HasDirection ds from to → place_between from to ds < length ds) → cond b (Some d) (direction_of from to ds) ≢ None
          → cond b 0 (suc (place_between from to ds)) < length (d ∷ ds)
      go true later has = omega arith
      go false later has = let within = later has in omega (arith, within)

  -- it stands at its place
  pub direction_of-place : (ds : List Direction) (x : Direction) → place_between from to ds < length ds → direction_of from to ds ≡ Some (get_or ds (place_between from to ds) x)
  direction_of-place [] x within = absurd (omega (arith, within))
  direction_of-place (d ∷ ds) x within = go (is_between from to d) (direction_of-place ds x) within
    where
      go : (b : Bool) → (place_between from to ds < length ds → direction_of from to ds ≡ Some (get_or ds (place_between from to ds) x)) → cond b 0 (suc (place_between from to ds)) < length (d ∷ ds)
          → cond b (Some d) (direction_of from to ds) ≡ Some (get_or (d ∷ ds) (cond b 0 (suc (place_between from to ds))) x)
      go true later within = refl
      go false later within = later (omega (arith, within))

  -- a change of it is a change at its place
  pub at_direction-set : (change : Direction → Direction) (ds : List Direction) (x : Direction) → place_between from to ds < length ds
      → at_direction from to change ds ≡ set ds (place_between from to ds) (change (get_or ds (place_between from to ds) x))
  at_direction-set change [] x within = absurd (omega (arith, within))
  at_direction-set change (d ∷ ds) x within = go (is_between from to d) (at_direction-set change ds x) within
    where
      go : (b : Bool) → (place_between from to ds < length ds → at_direction from to change ds ≡ set ds (place_between from to ds) (change (get_or ds (place_between from to ds) x)))
          → cond b 0 (suc (place_between from to ds)) < length (d ∷ ds)
          → cond b (change d ∷ ds) (d ∷ at_direction from to change ds)
          ≡ set (d ∷ ds) (cond b 0 (suc (place_between from to ds))) (change (get_or (d ∷ ds) (cond b 0 (suc (place_between from to ds))) x))
      go true later within = refl
      go false later within = ap (λ t. d ∷ t) (later (omega (arith, within)))

  module _ (ds net seen : List Direction) (place : ℕ) (d : Direction) (net_is : ds ≡ net) (seen_is : seen ≡ ds) (place_is : place ≡ place_between from to seen) (within : place < length seen)
      (stands : d ≡ get_or ds place d) where
    place_is' : place ≡ place_between from to ds
    place_is' = place_is ∙ ap (place_between from to) seen_is

    within' : place_between from to ds < length ds
    within' = rw (seen_is, place_is') at within

    stands' : d ≡ get_or ds (place_between from to ds) d
    stands' = stands ∙ ap (λ p. get_or ds p d) place_is'

    -- the direction that was read at the place is the one that is wanted
    pub direction_of-read : direction_of from to net ≡ Some d
    direction_of-read = rw (← net_is) (direction_of-place ds d within' ∙ ap Some (sym stands'))

    -- the one that was changed there is the one that was to change
    pub at_direction-written : (change : Direction → Direction) (d' : Direction) → d' ≡ change d → set ds place d' ≡ at_direction from to change net
    at_direction-written change d' changed = rw (← net_is)
        (ap (λ p. set ds p d') place_is' ∙ ap (λ e. set ds (place_between from to ds) e) (changed ∙ ap change stands') ∙ sym (at_direction-set change ds d within'))
