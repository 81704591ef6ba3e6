-- The streams of an index after steps on them.
use Rattle.std.proofs.Common.{◌≡◌, ℕ, zero, suc, ◌+◌, ◌≤◌, List, [], ◌∷◌, take, get_or, set, refl, ap, arith, add-one}
use Rattle.std.specs.List.{AllByRecursion}
use Rattle.dependency_index.specs.Columns.{Lodged, columns_of}

-- where a stream got memory, what is kept stays
pub columns_of-same : (ls : List Lodged) (i : ℕ) (l d : Lodged) → l.column ≡ (get_or ls i d).column → columns_of (set ls i l) ≡ columns_of ls
columns_of-same [] i l d is = refl
columns_of-same (x ∷ xs) zero l d is = rw is refl
columns_of-same (x ∷ xs) (suc i) l d is = ap (λ cs. x.column ∷ cs) (columns_of-same xs i l d is)

-- and no stream has less
pub capacity-set : (least : ℕ) (ls : List Lodged) (i : ℕ) (l d : Lodged) → (get_or ls i d).capacity ≤ l.capacity → AllByRecursion (λ (s : Lodged). least ≤ s.capacity) ls
    → AllByRecursion (λ (s : Lodged). least ≤ s.capacity) (set ls i l)
capacity-set least [] i l d more each = tt
capacity-set least (x ∷ xs) zero l d more each = (omega (arith, each.0, more), each.1)
capacity-set least (x ∷ xs) (suc i) l d more each = (each.0, capacity-set least xs i l d more each.1)

taken_suc : (least : ℕ) (ls : List Lodged) (i : ℕ) (l : Lodged) → least ≤ l.capacity → AllByRecursion (λ (s : Lodged). least ≤ s.capacity) (take i ls)
    → AllByRecursion (λ (s : Lodged). least ≤ s.capacity) (take (suc i) (set ls i l))
taken_suc least [] i l made each = tt
taken_suc least (x ∷ xs) zero l made each = (made, tt)
taken_suc least (x ∷ xs) (suc i) l made each = (each.0, taken_suc least xs i l made each.1)

-- the streams up to a place have the memory, after one got it
pub capacity-taken : (least : ℕ) (ls : List Lodged) (i : ℕ) (l : Lodged) → least ≤ l.capacity → AllByRecursion (λ (s : Lodged). least ≤ s.capacity) (take i ls)
    → AllByRecursion (λ (s : Lodged). least ≤ s.capacity) (take (i + 1) (set ls i l))
capacity-taken least ls i l made each = rw add-one (taken_suc least ls i l made each)
