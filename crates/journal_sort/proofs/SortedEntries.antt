-- A sort by position sorts a journal where positions differ.
use Rattle.std.proofs.Common.{◌≡◌, ℕ, suc, ◌+◌, ◌<◌, ◌≤◌, ◌==◌, List, [], ◌∷◌, ◌++◌, length, take, drop, get_or, reverse, Bool, true, false, cond, refl, sym, ap, ◌∙◌, subst, arith}
use Rattle.std.specs.List.{AllByRecursion}
use Rattle.std.specs.List.Sorted.{IsPermutation, IsNonDecreasingBy}
use Rattle.std.specs.Cmp.{nat_cmp_is}
use Rattle.std.specs.Ordering.{nat_cmp}
use Rattle.std.specs.declared.cmp.Ordering.TheVariants.{Less}
use Rattle.std.proofs.lemmas.Bool.Decides.{nat_tests}
use Rattle.std.proofs.lemmas.List.{reverse-reverse}
use Rattle.std.proofs.lemmas.List.Elements.{All-from_get_or, recursion_from_All}
use Rattle.std.proofs.lemmas.List.Sorted.{IsPermutation-sym, IsPermutation-trans, IsPermutation-reverse, IsNonDecreasingBy-drop}
use Rattle.std.proofs.Math.Seq.{take-append_seam, drop-append_seam}
use Rattle.rep_lists.specs.Rising.{IsRising}
use Rattle.site_state.specs.declared.entry.Entry.{Entry}
use Rattle.rep_lists.specs.Counting.{count_where}
use Rattle.journal_sort.specs.Sorting.{finish_position, entries_from, entries_before, by_finish_position, has_position, PositionsDiffer, IsSorted}
use Rattle.journal_sort.proofs.SortedJournals.{count_where-IsPermutation}

-- ---- entries whose positions don't fall, and differ

all_least : (n : ℕ) (e : Entry) (es : List Entry) → ((i : ℕ) → i < length es → n ≤ finish_position (get_or es i e)) → AllByRecursion (λ (f : Entry). n ≤ finish_position f) es
all_least n e es least = recursion_from_All (λ (f : Entry). n ≤ finish_position f) es (All-from_get_or (λ (f : Entry). n ≤ finish_position f) es e least)

none_there : (n : ℕ) (es : List Entry) → count_where (has_position n) es ≡ 0 → AllByRecursion (λ (f : Entry). n ≤ finish_position f) es
    → AllByRecursion (λ (f : Entry). nat_cmp n (finish_position f) ≡ Less) es
none_there n [] none least = tt
none_there n (e ∷ es) none least = go (finish_position e == n) refl none (λ rest. none_there n es rest least.1)
  where
    go : (b : Bool) → (finish_position e == n) ≡ b → cond b (count_where (has_position n) es + 1) (count_where (has_position n) es) ≡ 0
        → (count_where (has_position n) es ≡ 0 → AllByRecursion (λ (f : Entry). nat_cmp n (finish_position f) ≡ Less) es)
        → AllByRecursion (λ (f : Entry). nat_cmp n (finish_position f) ≡ Less) (e ∷ es)
    go true is none later = absurd (omega (arith, none))
    go false is none later = (sym (nat_cmp_is n (finish_position e) Less (grind (arith, nat_tests, least.0))), later none)

differ_behind : (e : Entry) (es : List Entry) → PositionsDiffer (e ∷ es) → PositionsDiffer es
differ_behind e es differ position = go (has_position position e) (differ position)
  where
    go : (b : Bool) → cond b (count_where (has_position position) es + 1) (count_where (has_position position) es) ≤ 1 → count_where (has_position position) es ≤ 1
    go true once = omega (arith, once)
    go false once = once

none_behind : (e : Entry) (es : List Entry) → PositionsDiffer (e ∷ es) → count_where (has_position (finish_position e)) es ≡ 0
none_behind e es differ = go (finish_position e == finish_position e) (grind (arith, nat_tests)) (differ (finish_position e))
  where
    go : (b : Bool) → b ≡ true → cond b (count_where (has_position (finish_position e)) es + 1) (count_where (has_position (finish_position e)) es) ≤ 1
        → count_where (has_position (finish_position e)) es ≡ 0
    go true is once = omega (arith, once)
    go false is once = absurd (cc is)

rising_where_differing : (es : List Entry) → IsNonDecreasingBy finish_position es → PositionsDiffer es → IsRising by_finish_position es
rising_where_differing [] up differ = tt
rising_where_differing (e ∷ es) up differ = (
  none_there (finish_position e) es (none_behind e es differ) (all_least (finish_position e) e es (λ i within. up 0 (suc i) e (omega arith) (omega (arith, within)))),
  rising_where_differing es (IsNonDecreasingBy-drop finish_position 1 (e ∷ es) up) (differ_behind e es differ),
)

-- ---- the journal

-- what stands before a place and from it on, where the older part is as long
before_place : (place : ℕ) (left rest : List Entry) → length left ≡ place → entries_before place (reverse (left ++ rest)) ≡ left
before_place place left rest long =
    ap (take place) (reverse-reverse (left ++ rest)) ∙ ap (λ (n : ℕ). take n (left ++ rest)) (sym long) ∙ take-append_seam left rest

from_place : (place : ℕ) (left rest : List Entry) → length left ≡ place → entries_from place (reverse (left ++ rest)) ≡ rest
from_place place left rest long =
    ap (drop place) (reverse-reverse (left ++ rest)) ∙ ap (λ (n : ℕ). drop n (left ++ rest)) (sym long) ∙ drop-append_seam left rest

sorted_in_parts : (place : ℕ) (left taken sorted : List Entry) → length left ≡ place → PositionsDiffer (entries_from place (reverse (left ++ reverse taken)))
    → IsPermutation taken sorted → IsNonDecreasingBy finish_position sorted → IsSorted place (reverse (left ++ reverse taken)) (reverse (left ++ sorted))
sorted_in_parts place left taken sorted long differ same up = record {
  older = before_place place left sorted long ∙ sym (before_place place left (reverse taken) long);
  entries = subst (λ es. IsPermutation es (entries_from place (reverse (left ++ reverse taken)))) (sym (from_place place left sorted long))
      (subst (IsPermutation sorted) (sym (from_place place left (reverse taken) long)) back);
  rising = subst (IsRising by_finish_position) (sym (from_place place left sorted long)) (rising_where_differing sorted up differ_sorted);
}
  where
    back : IsPermutation sorted (reverse taken)
    back = IsPermutation-trans _ _ _ (IsPermutation-sym _ _ same) (IsPermutation-reverse taken)

    differ_sorted : PositionsDiffer sorted
    differ_sorted position =
        omega (arith, differ position, ap (count_where (has_position position)) (from_place place left (reverse taken) long), count_where-IsPermutation (has_position position) sorted (reverse taken) back)

-- the entries from a place on are taken away, the last first, sorted and put back
pub sorted_by_sort : (place : ℕ) (old left taken sorted new : List Entry) → old ≡ left ++ reverse taken → length left ≡ place → new ≡ left ++ sorted → PositionsDiffer (drop place old)
    → IsPermutation taken sorted → IsNonDecreasingBy finish_position sorted → IsSorted place (reverse old) (reverse new)
sorted_by_sort place old left taken sorted new was long becomes differ same up =
    subst (λ es. IsSorted place (reverse es) (reverse new)) (sym was)
    (subst (λ es. IsSorted place (reverse (left ++ reverse taken)) (reverse es)) (sym becomes)
    (sorted_in_parts place left taken sorted long
    (subst PositionsDiffer (sym (ap (drop place) (reverse-reverse (left ++ reverse taken)))) (subst (λ es. PositionsDiffer (drop place es)) was differ)) same up))
