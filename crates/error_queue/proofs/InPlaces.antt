-- What becomes of a list where a value is taken from its place, or put into one.
use Rattle.std.proofs.Common.{◌≡◌, ℕ, List, get_or, Option, Some, None, Result, Ok, Err, sym, ap, ◌∙◌}
use Rattle.std.specs.Prelude.{IfSome, OnSome, IsSome, OnOk, OnErr}
use Rattle.std.specs.List.{remove}
use Rattle.std.specs.declared.cmp.Ordering.{Ordering}
use Rattle.rep_lists.specs.Rising.{find_at, take_at, IsThere}
use Rattle.rep_lists.proofs.Rising.{find_there, take_there}

module _ {X : Type 0} (at : X → Ordering) (xs : List X) (i : ℕ) (there : IsThere at xs i) where
  -- the value that was taken is the one that is found
  pub taken_found : (taken : Option X) → IsSome taken → IfSome taken (λ x. x ≡ get_or xs i x) → taken ≡ find_at at xs
  taken_found None some is = cc
  taken_found (Some x) some is = ap Some is ∙ sym (find_there at xs i x there)

  -- the others are left
  pub taken_left : (taken : Option X) (left : List X) → IsSome taken → OnSome taken (left ≡ remove xs i) → left ≡ take_at at xs
  taken_left None left some is = cc
  taken_left (Some x) left some is = is ∙ sym (take_there at xs i there)

-- where it can't fail, it holds
pub OnOk-sure : {X E : Type 0} (A B : Type 0) (result : Result X E) → OnOk result A → OnErr result B → (B → ⊥) → A
OnOk-sure A B (Ok x) a b never = a
OnOk-sure A B (Err e) a b never = absurd (never b)
