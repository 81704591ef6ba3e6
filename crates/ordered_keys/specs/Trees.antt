-- The entries of a tree in their order, and what its sums tell of them.
use Rattle.std.specs.Prelude.{◌≡◌, ℕ, ◌≤◌, List, [], ◌∷◌, ◌++◌, length}
use Rattle.std.specs.List.{AllByRecursion}
use Rattle.ordered_keys.specs.declared.tree.Tree.{Tree}
use Rattle.ordered_keys.specs.declared.tree.Tree.TheVariants.{Leaf, Fork'}
use Rattle.ordered_keys.specs.declared.tree.Sum.{Sum}

-- the entries in their order
abbrev pub entries : {E : Type 0} → Tree E → List E
entries Leaf = []
entries (Fork' p left right entry sum) = entries left ++ entry ∷ entries right

-- a sum has the number of the entries, and none has a moment before the first or behind the last
pub record IsSumOf {E : Type 0} (moment : E → ℕ) (sum : Sum) (es : List E) : Type 0 where
  pub number : sum.len ≡ length es
  pub first : AllByRecursion (λ e. sum.first ≤ moment e) es
  pub last : AllByRecursion (λ e. moment e ≤ sum.last) es

-- each root has the sum of what is below it
abbrev pub AreSummed : {E : Type 0} → (E → ℕ) → Tree E → Type 0
AreSummed moment Leaf = Unit {0}
AreSummed moment (Fork' p left right entry sum) = IsSumOf moment sum (entries left ++ entry ∷ entries right) × AreSummed moment left × AreSummed moment right
