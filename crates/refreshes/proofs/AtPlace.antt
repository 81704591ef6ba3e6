-- What stands at a place of a list.
use Rattle.std.proofs.Common.{◌≡◌, ℕ, List, Some, sym, ◌∙◌}
use Rattle.std.specs.Prelude.{slice_get}

-- there is but one value there
pub same_there : {X : Type 0} (xs : List X) (place : ℕ) (x y : X) → slice_get xs place ≡ Some x → slice_get xs place ≡ Some y → x ≡ y
same_there xs place x y first second = let same : Some x ≡ Some y = sym first ∙ second in cc
