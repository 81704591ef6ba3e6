-- A sorted journal has the entries of the one before.
use Rattle.std.proofs.Common.{◌≡◌, ℕ, ◌+◌, ◌≤◌, List, [], ◌∷◌, ◌++◌, take, drop, reverse, Bool, true, false, cond, refl, sym, ap, ◌∙◌, subst, arith}
use Rattle.std.specs.Prelude.{sum_by}
use Rattle.std.specs.List.{AllByRecursion}
use Rattle.std.specs.List.Sorted.{IsPermutation}
use Rattle.std.proofs.lemmas.List.{reverse-append, reverse-reverse, take-append-drop}
use Rattle.std.proofs.lemmas.List.Elements.{All-from_recursion, recursion_from_All}
use Rattle.std.proofs.lemmas.List.Sums.{sum_by-cons, sum_by-append}
use Rattle.std.proofs.lemmas.List.Sorted.{IsPermutation-sym, IsPermutation-trans, IsPermutation-append_left, IsPermutation-reverse, All-permutation, sum_by-IsPermutation}
use Rattle.rep_values.specs.declared.name.SiteName.{SiteName}
use Rattle.deferred_queue.proofs.Sites.{is_same_site-refl}
use Rattle.rep_schema.specs.declared.schema.Schema.{Schema}
use Rattle.site_state.specs.declared.entry.Entry.{Entry}
use Rattle.site_state.specs.declared.entry.Entry.TheVariants.{Local, Done, Error, Executed, Dropped, Refreshed}
use Rattle.site_state.specs.Journal.{finishes}
use Rattle.rep_lists.specs.Counting.{count_where}
use Rattle.journal_sort.specs.Sorting.{IsFinishOf, entries_from, entries_before, has_position, PositionsDiffer, CanBeSorted, IsSorted}
use Rattle.site_state.specs.Waited.{IsFinishedOnce}

-- ---- what doesn't go by the order

-- all entries have what those of a permutation have
pub AllByRecursion-IsPermutation : {X : Type 0} (P : X → Type 0) (xs ys : List X) → IsPermutation xs ys → AllByRecursion P xs → AllByRecursion P ys
AllByRecursion-IsPermutation P xs ys same all = recursion_from_All P ys (All-permutation P xs ys same (All-from_recursion P xs all))

module _ {X : Type 0} (P : X → Type 0) where
  pub all_front : (xs ys : List X) → AllByRecursion P (xs ++ ys) → AllByRecursion P xs
  all_front [] ys all = tt
  all_front (x ∷ xs) ys all = (all.0, all_front xs ys all.1)

  pub all_reversed : (xs : List X) → AllByRecursion P (reverse xs) → AllByRecursion P xs
  all_reversed xs = AllByRecursion-IsPermutation P (reverse xs) xs (IsPermutation-sym _ _ (IsPermutation-reverse xs))

  pub all_rest : (xs ys : List X) → AllByRecursion P (xs ++ ys) → AllByRecursion P ys
  all_rest [] ys all = all
  all_rest (x ∷ xs) ys all = all_rest xs ys all.1

module _ {X : Type 0} (test : X → Bool) where
  abbrev one_if : Bool → ℕ
  one_if b = cond b 1 0

  abbrev counted : X → ℕ
  counted x = one_if (test x)

  count_where-is : (xs : List X) → count_where test xs ≡ sum_by counted xs
  count_where-is [] = refl
  count_where-is (x ∷ xs) = go (test x) refl (count_where-is xs)
    where
      go : (b : Bool) → test x ≡ b → count_where test xs ≡ sum_by counted xs → cond b (count_where test xs + 1) (count_where test xs) ≡ sum_by counted (x ∷ xs)
      go true is later = omega (arith, ap one_if is, sum_by-cons counted x xs, later)
      go false is later = omega (arith, ap one_if is, sum_by-cons counted x xs, later)

  -- a permutation has as many that pass
  pub count_where-IsPermutation : (xs ys : List X) → IsPermutation xs ys → count_where test ys ≡ count_where test xs
  count_where-IsPermutation xs ys same = count_where-is ys ∙ sum_by-IsPermutation counted xs ys same ∙ sym (count_where-is xs)

  -- a part of a list has no more
  count_where-drop : (n : ℕ) (xs : List X) → count_where test (drop n xs) ≤ count_where test xs
  count_where-drop n xs =
      omega (arith, count_where-is (drop n xs), count_where-is xs, sum_by-append counted (take n xs) (drop n xs), ap (sum_by counted) (take-append-drop n xs))

-- ---- the journal in two parts

-- a journal is what stands from a place on over what stands before it
pub journal_parts : (place : ℕ) (journal : List Entry) → journal ≡ reverse (entries_from place journal) ++ reverse (entries_before place journal)
journal_parts place journal =
    sym (reverse-reverse journal) ∙ ap reverse (sym (take-append-drop place (reverse journal))) ∙ reverse-append (entries_before place journal) (entries_from place journal)

-- the sorted journal stands over the same older entries
pub sorted_parts : (place : ℕ) (old new : List Entry) → IsSorted place old new → new ≡ reverse (entries_from place new) ++ reverse (entries_before place old)
sorted_parts place old new sorted = journal_parts place new ∙ ap (λ es. reverse (entries_from place new) ++ reverse es) sorted.older

IsPermutation-reverses : {X : Type 0} (xs ys : List X) → IsPermutation xs ys → IsPermutation (reverse xs) (reverse ys)
IsPermutation-reverses xs ys same =
    IsPermutation-trans _ _ _ (IsPermutation-sym _ _ (IsPermutation-reverse xs)) (IsPermutation-trans _ _ _ same (IsPermutation-reverse ys))

-- a sorted journal has the entries of the one before
pub IsPermutation-sorted : (place : ℕ) (old new : List Entry) → IsSorted place old new → IsPermutation old new
IsPermutation-sorted place old new sorted =
    subst (λ es. IsPermutation es new) (sym (journal_parts place old))
    (subst (λ es. IsPermutation (reverse (entries_from place old) ++ reverse (entries_before place old)) es) (sym (sorted_parts place old new sorted))
    (IsPermutation-append_left (reverse (entries_before place old)) _ _ (IsPermutation-reverses _ _ (IsPermutation-sym _ _ sorted.entries))))

-- what holds of each entry of a journal holds of each of the sorted one
pub AllByRecursion-sorted : (P : Entry → Type 0) (place : ℕ) (old new : List Entry) → IsSorted place old new → AllByRecursion P old → AllByRecursion P new
AllByRecursion-sorted P place old new sorted all = AllByRecursion-IsPermutation P old new (IsPermutation-sorted place old new sorted) all

-- a sorted journal finishes a position as often as the one before
pub IsFinishedOnce-sorted : (place : ℕ) (old new : List Entry) → IsSorted place old new → IsFinishedOnce old → IsFinishedOnce new
IsFinishedOnce-sorted place old new sorted once origin position =
    omega (arith, count_where-IsPermutation (finishes origin position) old new (IsPermutation-sorted place old new sorted), once origin position)

-- ---- positions differ

finishes-IsFinishOf : (origin : SiteName) (position : ℕ) (e : Entry) → IsFinishOf origin e → finishes origin position e ≡ has_position position e
finishes-IsFinishOf origin position (Local number txn) is = absurd is
finishes-IsFinishOf origin position (Done o p onward txn) is = rw (is, is_same_site-refl origin) refl
finishes-IsFinishOf origin position (Error o p call error txn) is = rw (is, is_same_site-refl origin) refl
finishes-IsFinishOf origin position (Executed o p onward txn) is = absurd is
finishes-IsFinishOf origin position (Dropped o p) is = absurd is
finishes-IsFinishOf origin position (Refreshed moment) is = absurd is

count_where-positions : (origin : SiteName) (position : ℕ) (es : List Entry) → AllByRecursion (IsFinishOf origin) es → count_where (has_position position) es ≡ count_where (finishes origin position) es
count_where-positions origin position [] all = refl
count_where-positions origin position (e ∷ es) all =
    rw (finishes-IsFinishOf origin position e all.0, count_where-positions origin position es all.1) refl

-- where positions are finished once, the entries that can be sorted have different positions
pub PositionsDiffer-sortable : (schema : Schema) (origin : SiteName) (place : ℕ) (journal : List Entry) → IsFinishedOnce journal → CanBeSorted schema origin place journal
    → PositionsDiffer (entries_from place journal)
PositionsDiffer-sortable schema origin place journal once can position =
    omega (
      arith,
      count_where-positions origin position (entries_from place journal) can.entries,
      count_where-drop (finishes origin position) place (reverse journal),
      count_where-IsPermutation (finishes origin position) journal (reverse journal) (IsPermutation-reverse journal),
      once origin position,
    )

-- the same for the entries of a list that stands oldest first
pub PositionsDiffer-items : (schema : Schema) (origin : SiteName) (place : ℕ) (items : List Entry) → IsFinishedOnce (reverse items) → CanBeSorted schema origin place (reverse items)
    → PositionsDiffer (drop place items)
PositionsDiffer-items schema origin place items once can =
    subst (λ es. PositionsDiffer (drop place es)) (reverse-reverse items) (PositionsDiffer-sortable schema origin place (reverse items) once can)
