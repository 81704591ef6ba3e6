-- Edges of finished positions: of an edge and the number behind it, one is finished and the other isn't.
use Rattle.std.specs.Prelude.{◌≡◌, ℕ, ◌%◌, ◌==◌, Bool, false, List, [], ◌∷◌, length, nat_lt}
use Rattle.std.specs.List.{count_by}
use Rattle.std.specs.Ordering.{nat_cmp}
use Rattle.std.specs.declared.cmp.Ordering.{Ordering}
use Rattle.std.specs.declared.cmp.Ordering.TheVariants.{Less, Equal, Greater}
use Rattle.rep_lists.specs.Rising.{IsRising}

-- whether a number is odd
abbrev pub is_odd : ℕ → Bool
is_odd n = n % 2 == 1

-- how many edges lie below a position
abbrev pub count_below : ℕ → List ℕ → ℕ
count_below p edges = count_by (λ e. nat_lt e p) edges

-- whether a position lies between two edges that belong together: an odd number of edges is below it
abbrev pub is_between : List ℕ → ℕ → Bool
is_between edges p = is_odd (count_below p edges)

-- the higher number first
abbrev pub falling_cmp : ℕ → ℕ → Ordering
falling_cmp a b = nat_cmp b a

-- each edge is above all later ones
abbrev pub IsFalling : List ℕ → Type 0
IsFalling edges = IsRising falling_cmp edges

-- the edges fall, and come in pairs
pub record IsEdges (edges : List ℕ) : Type 0 where
  pub falling : IsFalling edges
  pub paired : is_odd (length edges) ≡ false

-- the edges from x on, by where the edge that is flipped stands beside x
abbrev pub flipped_here : Ordering → ℕ → ℕ → List ℕ → List ℕ → List ℕ
flipped_here Less edge x xs rest = x ∷ rest
flipped_here Equal edge x xs rest = xs
flipped_here Greater edge x xs rest = edge ∷ x ∷ xs

-- the edges without this one, or with it where it isn't there
abbrev pub flipped : ℕ → List ℕ → List ℕ
flipped edge [] = edge ∷ []
flipped edge (x ∷ xs) = flipped_here (nat_cmp edge x) edge x xs (flipped edge xs)
