-- What it tells of steps that none of them refuses.
use Rattle.std.proofs.Common.{◌≡◌, ℕ, zero, suc, ◌<◌, ◌≤◌, Bool, true, false, List, [], ◌∷◌, map, Option, Some, None, refl, subst}
use Rattle.std.specs.Prelude.{not, slice_get}
use Rattle.std.proofs.lemmas.Bool.{leb-true, leb-false, not-false}
use Rattle.rep_values.specs.declared.refusal.Refusal.{Refusal}
use Rattle.rep_values.specs.declared.refusal.Refusal.TheVariants as refusal
use Rattle.rep_values.specs.declared.refusal.Limit.{Limit}
use Rattle.rep_values.specs.RefusalSteps.{refused, or_then, first_refusal, taken, full, too_many, known}

-- neither of two steps refuses
pub or_then-None : (first following : Option Refusal) → or_then first following ≡ None → (first ≡ None) × (following ≡ None)
or_then-None None following none = (refl, none)
or_then-None (Some why) following none = cc

-- the test fails
pub refused-None : (test : Bool) (why : Refusal) → refused test why ≡ None → test ≡ false
refused-None true why none = cc
refused-None false why none = refl

-- what the test denies holds
pub refused_not-None : (test : Bool) (why : Refusal) → refused (not test) why ≡ None → test ≡ true
refused_not-None true why none = refl
refused_not-None false why none = cc

-- there is room for one more
pub full-None : (most count : ℕ) (what : Limit) → full most count what ≡ None → count < most
full-None most count what none = leb-false most count (refused-None _ (refusal.LimitReached what) none)

-- there aren't too many
pub too_many-None : (most count : ℕ) (what : Limit) → too_many most count what ≡ None → count ≤ most
too_many-None most count what none = leb-true count most (not-false _ (refused-None _ (refusal.LimitReached what) none))

-- nothing of the name is there
pub taken-None : {X : Type 0} (found : Option X) → taken found ≡ None → found ≡ None
taken-None None none = refl
taken-None (Some x) none = cc

-- what follows doesn't refuse where something of the name is there
pub known-None : {X : Type 0} (found : Option X) (x : X) (steps : X → List (Option Refusal)) → found ≡ Some x → first_refusal (known found steps) ≡ None
    → first_refusal (steps x) ≡ None
known-None found x steps is passed = subst (λ o. first_refusal (known o steps) ≡ None) is passed

-- none of the steps refuses
pub none_refuses : {X : Type 0} (step : X → Option Refusal) (xs : List X) → first_refusal (map step xs) ≡ None → (i : ℕ) (x : X) → slice_get xs i ≡ Some x → step x ≡ None
none_refuses step [] passes i x there = cc
none_refuses step (y ∷ ys) passes zero x there = let both = or_then-None (step y) (first_refusal (map step ys)) passes in let same : y ≡ x = cc in rw (← same) both.0
none_refuses step (y ∷ ys) passes (suc i) x there = let both = or_then-None (step y) (first_refusal (map step ys)) passes in none_refuses step ys both.1 i x there
