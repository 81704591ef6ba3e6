-- The row of a slot after a change of one slot, and that free slots stay free.
use Rattle.std.proofs.Common.{◌≡◌, ◌≢◌, ℕ, zero, suc, ◌+◌, ◌-◌, ◌<◌, List, [], ◌∷◌, ◌++◌, length, get_or, set, Some, None, refl, sym, ap, ◌∙◌, subst, arith}
use mathlib.Core.Bool.{false≢true}
use Rattle.std.specs.Prelude.{Option, slice_get, IsSome}
use Rattle.std.specs.List.{AllByRecursion}
use Rattle.std.proofs.lemmas.Option.{slice_get-get_or, get_or_from_slice_get}
use Rattle.rep_lists.proofs.Each.{each_at}
use Rattle.rep_schema.specs.Tables.{Cells}
use Rattle.page_tables.specs.Slots.{in_slot, slot_row, row_in, values_or_none, next_slot, AreDistinct, AreFree, SlotHolds}

-- what a place has after a change of one place
get-set_same : {X : Type 0} (xs : List X) (i : ℕ) (y : X) → i < length xs → slice_get (set xs i y) i ≡ Some y
get-set_same [] i y within = absurd (omega (arith, within))
get-set_same (x ∷ xs) zero y within = refl
get-set_same (x ∷ xs) (suc i) y within = get-set_same xs i y (omega (arith, within))

get-set_other : {X : Type 0} (xs : List X) (i k : ℕ) (y : X) → k ≢ i → slice_get (set xs i y) k ≡ slice_get xs k
get-set_other [] i k y other = refl
get-set_other (x ∷ xs) zero zero y other = absurd (other refl)
get-set_other (x ∷ xs) zero (suc k) y other = refl
get-set_other (x ∷ xs) (suc i) zero y other = refl
get-set_other (x ∷ xs) (suc i) (suc k) y other = get-set_other xs i k y (λ e. other (ap suc e))

get-push_last : {X : Type 0} (xs : List X) (y : X) → slice_get (xs ++ y ∷ []) (length xs) ≡ Some y
get-push_last [] y = refl
get-push_last (x ∷ xs) y = get-push_last xs y

get-push_other : {X : Type 0} (xs : List X) (k : ℕ) (y : X) → k ≢ length xs → slice_get (xs ++ y ∷ []) k ≡ slice_get xs k
get-push_other [] zero y other = absurd (other refl)
get-push_other [] (suc k) y other = refl
get-push_other (x ∷ xs) zero y other = refl
get-push_other (x ∷ xs) (suc k) y other = get-push_other xs k y (λ e. other (ap suc e))

-- a place behind the list has nothing
get-past : {X : Type 0} (xs : List X) → slice_get xs (length xs) ≡ None
get-past [] = refl
get-past (x ∷ xs) = get-past xs

get-within : {X : Type 0} (xs : List X) (k : ℕ) (x : X) → slice_get xs k ≡ Some x → k < length xs
get-within [] k x found = cc
get-within (x ∷ xs) zero y found = omega arith
get-within (x ∷ xs) (suc k) y found = let rest = get-within xs k y found in omega (arith, rest)

pub row_at-set_same : (rows : List (Option Cells)) (slot : ℕ) (row : Option Cells) → slot < length rows → slot_row (set rows slot row) slot ≡ row
row_at-set_same rows slot row within = ap in_slot (get-set_same rows slot row within)

pub row_at-set_other : (rows : List (Option Cells)) (slot other : ℕ) (row : Option Cells) → other ≢ slot → slot_row (set rows slot row) other ≡ slot_row rows other
row_at-set_other rows slot other row differ = ap in_slot (get-set_other rows slot other row differ)

-- the row of a slot is what stands there
pub row_at-get_or : (rows : List (Option Cells)) (slot : ℕ) (d : Option Cells) → slot < length rows → slot_row rows slot ≡ get_or rows slot d
row_at-get_or rows slot d within = ap in_slot (slice_get-get_or rows slot d within)

pub row_at-push_last : (rows : List (Option Cells)) (row : Option Cells) → slot_row (rows ++ row ∷ []) (length rows) ≡ row
row_at-push_last rows row = ap in_slot (get-push_last rows row)

pub row_at-push_other : (rows : List (Option Cells)) (other : ℕ) (row : Option Cells) → other ≢ length rows → slot_row (rows ++ row ∷ []) other ≡ slot_row rows other
row_at-push_other rows other row differ = ap in_slot (get-push_other rows other row differ)

-- a slot with a row is one of the slots
pub held_within : (rows : List (Option Cells)) (slot : ℕ) → IsSome (slot_row rows slot) → slot < length rows
held_within [] slot held = absurd (false≢true held)
held_within (row ∷ rows) zero held = omega arith
held_within (row ∷ rows) (suc slot) held = let rest = held_within rows slot held in omega (arith, rest)

-- and its values are those of its row
pub held_row : (rows : List (Option Cells)) (slot : ℕ) → IsSome (slot_row rows slot) → slot_row rows slot ≡ Some (row_in rows slot)
held_row rows slot held = go (slot_row rows slot) held
  where
    go : (row : Option Cells) → IsSome row → row ≡ Some (values_or_none row)
    go None held = absurd (false≢true held)
    go (Some row) held = refl

-- a slot with a row is not one without
free_unheld : (rows : List (Option Cells)) (slot other : ℕ) → IsSome (slot_row rows slot) → slice_get rows other ≡ Some None → other ≢ slot
free_unheld rows slot other held free same =
    let none : slot_row rows slot ≡ None = ap (λ s. slot_row rows s) (sym same) ∙ ap in_slot free in
    false≢true (rw none at held)

distinct_pop : (free : List ℕ) (slot : ℕ) → AreDistinct (free ++ slot ∷ []) → AreDistinct free × AllByRecursion (λ other. other ≢ slot) free
distinct_pop [] slot distinct = (tt, tt)
distinct_pop (x ∷ xs) slot distinct =
    let rest = distinct_pop xs slot distinct.1 in
    ((left xs distinct.0, rest.0), (λ same. last xs distinct.0 (sym same), rest.1))
  where
    left : (ys : List ℕ) → AllByRecursion (λ other. other ≢ x) (ys ++ slot ∷ []) → AllByRecursion (λ other. other ≢ x) ys
    left [] all = tt
    left (y ∷ ys) all = (all.0, left ys all.1)

    last : (ys : List ℕ) → AllByRecursion (λ other. other ≢ x) (ys ++ slot ∷ []) → slot ≢ x
    last [] all = all.0
    last (y ∷ ys) all = last ys all.1

distinct_push : (free : List ℕ) (slot : ℕ) → AreDistinct free → AllByRecursion (λ other. other ≢ slot) free → AreDistinct (free ++ slot ∷ [])
distinct_push [] slot distinct others = (tt, tt)
distinct_push (x ∷ xs) slot distinct others = (more xs distinct.0, distinct_push xs slot distinct.1 others.1)
  where
    more : (ys : List ℕ) → AllByRecursion (λ other. other ≢ x) ys → AllByRecursion (λ other. other ≢ x) (ys ++ slot ∷ [])
    more [] all = (λ same. others.0 (sym same), tt)
    more (y ∷ ys) all = (all.0, more ys all.1)

-- slots that are free stay free where another one changes
empty_set : (rows : List (Option Cells)) (slot : ℕ) (row : Option Cells) (free : List ℕ) → AllByRecursion (λ other. other ≢ slot) free → AllByRecursion (λ other. slice_get rows other ≡ Some None) free
    → AllByRecursion (λ other. slice_get (set rows slot row) other ≡ Some None) free
empty_set rows slot row [] others empty = tt
empty_set rows slot row (x ∷ xs) others empty = (get-set_other rows slot x row others.0 ∙ empty.0, empty_set rows slot row xs others.1 empty.1)

empty_front : (rows : List (Option Cells)) (free : List ℕ) (slot : ℕ) → AllByRecursion (λ other. slice_get rows other ≡ Some None) (free ++ slot ∷ []) → AllByRecursion (λ other. slice_get rows other ≡ Some None) free × (slice_get rows slot ≡ Some None)
empty_front rows [] slot empty = (tt, empty.0)
empty_front rows (x ∷ xs) slot empty = let rest = empty_front rows xs slot empty.1 in ((empty.0, rest.0), rest.1)

empty_push : (rows : List (Option Cells)) (free : List ℕ) (slot : ℕ) → AllByRecursion (λ other. slice_get rows other ≡ Some None) free → slice_get rows slot ≡ Some None → AllByRecursion (λ other. slice_get rows other ≡ Some None) (free ++ slot ∷ [])
empty_push rows [] slot empty here = (here, tt)
empty_push rows (x ∷ xs) slot empty here = (empty.0, empty_push rows xs slot empty.1 here)

others_held : (rows : List (Option Cells)) (slot : ℕ) (free : List ℕ) → IsSome (slot_row rows slot) → AllByRecursion (λ other. slice_get rows other ≡ Some None) free → AllByRecursion (λ other. other ≢ slot) free
others_held rows slot [] held empty = tt
others_held rows slot (x ∷ xs) held empty = (free_unheld rows slot x held empty.0, others_held rows slot xs held empty.1)

-- the last free slot is one of the slots, and gets a row
pub free_last : (rows : List (Option Cells)) (free : List ℕ) (slot : ℕ) → AreFree rows (free ++ slot ∷ []) → slot < length rows
free_last rows free slot are = get-within rows slot None (empty_front rows free slot are.empty).1

pub AreFree-hold : (rows : List (Option Cells)) (free : List ℕ) (slot : ℕ) (row : Option Cells) → AreFree rows (free ++ slot ∷ []) → AreFree (set rows slot row) free
AreFree-hold rows free slot row are =
    let parts = distinct_pop free slot are.distinct in
    record { empty = empty_set rows slot row free parts.1 (empty_front rows free slot are.empty).0; distinct = parts.0 }

-- a slot with a row gets another one
pub AreFree-replace : (rows : List (Option Cells)) (free : List ℕ) (slot : ℕ) (row : Option Cells) → IsSome (slot_row rows slot) → AreFree rows free → AreFree (set rows slot row) free
AreFree-replace rows free slot row held are = record { empty = empty_set rows slot row free (others_held rows slot free held are.empty) are.empty; distinct = are.distinct }

-- or none, and is free then
pub AreFree-release : (rows : List (Option Cells)) (free : List ℕ) (slot : ℕ) → IsSome (slot_row rows slot) → AreFree rows free → AreFree (set rows slot None) (free ++ slot ∷ [])
AreFree-release rows free slot held are =
    let others = others_held rows slot free held are.empty in
    record {
      empty = empty_push (set rows slot None) free slot (empty_set rows slot None free others are.empty) (get-set_same rows slot None (held_within rows slot held));
      distinct = distinct_push free slot are.distinct others;
    }

-- the next slot has no row
pub next_unheld : (rows : List (Option Cells)) (free : List ℕ) → AreFree rows free → slot_row rows (next_slot rows free) ≡ None
next_unheld rows [] are = ap in_slot (get-past rows)
next_unheld rows (x ∷ xs) are =
    let last : length (x ∷ xs) - 1 < length (x ∷ xs) = omega arith in
    ap in_slot (each_at (λ other. slice_get rows other ≡ Some None) (x ∷ xs) (length (x ∷ xs) - 1) (length rows) last are.empty)

-- where the last free slot is known, it is the next one
pub next_slot-last : (rows : List (Option Cells)) (free : List ℕ) (slot : ℕ) → next_slot rows (free ++ slot ∷ []) ≡ slot
next_slot-last rows free slot = go free (length (free ++ slot ∷ []) - 1) (length-push free)
  where
    length-push : (xs : List ℕ) → length (xs ++ slot ∷ []) - 1 ≡ length xs
    length-push xs = let long = pushed xs in omega (arith, long)
      where
        pushed : (ys : List ℕ) → length (ys ++ slot ∷ []) ≡ length ys + 1
        pushed [] = refl
        pushed (y ∷ ys) = let rest = pushed ys in omega (arith, rest)

    go : (xs : List ℕ) (i : ℕ) → i ≡ length xs → get_or (xs ++ slot ∷ []) i (length rows) ≡ slot
    go [] i is = rw is refl
    go (x ∷ xs) zero is = absurd (omega (arith, is))
    go (x ∷ xs) (suc i) is = go xs i (omega (arith, is))

-- the last free slot has no row
pub free_none : (rows : List (Option Cells)) (free : List ℕ) (slot : ℕ) (d : Option Cells) → AreFree rows (free ++ slot ∷ []) → get_or rows slot d ≡ None
free_none rows free slot d are = get_or_from_slice_get rows slot None d (empty_front rows free slot are.empty).1

-- and gets one
pub holds_last : (rows : List (Option Cells)) (all free : List ℕ) (slot : ℕ) (row : Option Cells) (most now : ℕ) → all ≡ free ++ slot ∷ [] → AreFree rows all → now ≡ most
    → SlotHolds (record { rows = rows; free = all; most = most }) (record { rows = set rows slot row; free = free; most = now }) (next_slot rows all) row
holds_last rows all free slot row most now is are same =
    let last : next_slot rows all ≡ slot = ap (next_slot rows) is ∙ next_slot-last rows free slot in
    let within = free_last rows free slot (subst (AreFree rows) is are) in
    rw last (record { here = row_at-set_same rows slot row within; others = λ other differ. row_at-set_other rows slot other row differ; most = same })

-- or a new one, where none is free
pub holds_new : (rows : List (Option Cells)) (all free : List ℕ) (row : Option Cells) (most now : ℕ) → all ≡ [] → now ≡ most
    → SlotHolds (record { rows = rows; free = all; most = most }) (record { rows = rows ++ row ∷ []; free = free; most = now }) (next_slot rows all) row
holds_new rows all free row most now none same = rw none (record { here = row_at-push_last rows row; others = λ other differ. row_at-push_other rows other row differ; most = same })

-- a slot with a row gets another one, or none
pub holds_there : (rows : List (Option Cells)) (all free : List ℕ) (slot : ℕ) (row : Option Cells) (most now : ℕ) → IsSome (slot_row rows slot) → now ≡ most
    → SlotHolds (record { rows = rows; free = all; most = most }) (record { rows = set rows slot row; free = free; most = now }) slot row
holds_there rows all free slot row most now held same = record {
  here = row_at-set_same rows slot row (held_within rows slot held);
  others = λ other differ. row_at-set_other rows slot other row differ;
  most = same;
}
