-- What follows of outcomes.
use Rattle.std.proofs.Common.{◌≡◌, ℕ, Result, Ok, Err, refl}
use Rattle.std.specs.Prelude.{OnOk, OnErr}
use Rattle.site_state.specs.declared.answers.RefreshCount.{RefreshCount}

-- what follows where an outcome is a value
pub OnOk-both : {X E : Type 0} (A B C : Type 0) (result : Result X E) → (A → B → C) → OnOk result A → OnOk result B → OnOk result C
OnOk-both A B C (Ok x) follows a b = follows a b
OnOk-both A B C (Err e) follows a b = tt

-- what follows where it is an error
pub OnErr-then : {X E : Type 0} (A C : Type 0) (result : Result X E) → (A → C) → OnErr result A → OnErr result C
OnErr-then A C (Ok x) follows a = tt
OnErr-then A C (Err e) follows a = follows a

-- a count by its parts
pub count_is : (count : RefreshCount) (keys rows : ℕ) → count.keys ≡ keys → count.rows ≡ rows → count ≡ record { keys = keys; rows = rows }
count_is count keys rows k r = rw (← k, ← r) refl
