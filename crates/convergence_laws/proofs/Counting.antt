-- Counting in lists, and elements of them.
use Rattle.std.proofs.Common.{◌≡◌, suc, ◌+◌, ◌≤◌, Bool, true, false, cond, List, [], ◌∷◌, ◌++◌, length, map, refl, sym, ap, ◌∙◌, inl, inr, arith}
use Rattle.std.specs.Prelude.{◌⊎◌}
use mathlib.Core.Bool.{true≢false}
use Rattle.rep_lists.specs.Counting.{count_where}
use Rattle.convergence_laws.specs.Collections.{Among}

pub count_where-append : {X : Type 0} (test : X → Bool) (xs ys : List X) → count_where test (xs ++ ys) ≡ count_where test xs + count_where test ys
count_where-append test [] ys = omega arith
count_where-append test (x ∷ xs) ys = go (test x) (count_where-append test xs ys)
  where
    go : (b : Bool) → count_where test (xs ++ ys) ≡ count_where test xs + count_where test ys
        → cond b (count_where test (xs ++ ys) + 1) (count_where test (xs ++ ys)) ≡ cond b (count_where test xs + 1) (count_where test xs) + count_where test ys
    go true later = omega (arith, later)
    go false later = later

pub count_where-length : {X : Type 0} (test : X → Bool) (xs : List X) → count_where test xs ≤ length xs
count_where-length test [] = omega arith
count_where-length test (x ∷ xs) = go (test x) (count_where-length test xs)
  where
    go : (b : Bool) → count_where test xs ≤ length xs → cond b (count_where test xs + 1) (count_where test xs) ≤ suc (length xs)
    go true later = omega (arith, later)
    go false later = omega (arith, later)

-- an element that passes counts
pub count_where-among : {X : Type 0} (test : X → Bool) (xs : List X) (x : X) → Among x xs → test x ≡ true → 1 ≤ count_where test xs
count_where-among test [] x among passes = absurd among
count_where-among {X} test (y ∷ ys) x among passes = go (test y) refl among (λ later. count_where-among test ys x later passes)
  where
    go : (b : Bool) → test y ≡ b → Among x (y ∷ ys) → (Among x ys → 1 ≤ count_where test ys) → 1 ≤ cond b (count_where test ys + 1) (count_where test ys)
    go true is among later = omega arith
    go false is (inl same) later = absurd (true≢false (sym passes ∙ (rw (← same) is)))
    go false is (inr among) later = later among

-- where at most one passes, those that do are the same
pub same_by_count : {X : Type 0} (test : X → Bool) (xs : List X) (x y : X) → count_where test xs ≤ 1 → Among x xs → Among y xs → test x ≡ true → test y ≡ true → x ≡ y
same_by_count test [] x y few one other passes too = absurd one
same_by_count {X} test (z ∷ zs) x y few one other passes too = go (test z) refl few one other (λ few among also. same_by_count test zs x y few among also passes too)
  where
    go : (b : Bool) → test z ≡ b → cond b (count_where test zs + 1) (count_where test zs) ≤ 1 → Among x (z ∷ zs) → Among y (z ∷ zs)
        → (count_where test zs ≤ 1 → Among x zs → Among y zs → x ≡ y) → x ≡ y
    go true is few (inl same) (inl also) later = sym same ∙ also
    go true is few (inl same) (inr among) later = absurd (omega (arith, few, count_where-among test zs y among too))
    go true is few (inr among) other later = absurd (omega (arith, few, count_where-among test zs x among passes))
    go false is few (inl same) other later = absurd (true≢false (sym passes ∙ (rw (← same) is)))
    go false is few (inr among) (inl same) later = absurd (true≢false (sym too ∙ (rw (← same) is)))
    go false is few (inr among) (inr also) later = later few among also

pub among_left : {X : Type 0} (x : X) (xs ys : List X) → Among x xs → Among x (xs ++ ys)
among_left x [] ys among = absurd among
among_left x (z ∷ zs) ys (inl same) = inl same
among_left x (z ∷ zs) ys (inr among) = inr (among_left x zs ys among)

pub among_right : {X : Type 0} (x : X) (xs ys : List X) → Among x ys → Among x (xs ++ ys)
among_right x [] ys among = among
among_right x (z ∷ zs) ys among = inr (among_right x zs ys among)

pub among_map : {X Y : Type 0} (f : X → Y) (x : X) (xs : List X) → Among x xs → Among (f x) (map f xs)
among_map f x [] among = absurd among
among_map f x (y ∷ ys) (inl same) = inl (ap f same)
among_map f x (y ∷ ys) (inr among) = inr (among_map f x ys among)

pub among_either : {X : Type 0} (x : X) (xs ys : List X) → Among x (xs ++ ys) → Among x xs ⊎ Among x ys
among_either x [] ys among = inr among
among_either x (z ∷ zs) ys (inl same) = inl (inl same)
among_either x (z ∷ zs) ys (inr among) = elim (among_either x zs ys among) [ inl one ↦ inl (inr one) | inr other ↦ inr other ]
