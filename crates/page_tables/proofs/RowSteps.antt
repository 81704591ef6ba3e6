-- Rows stay in order and indexed where one is put, replaced or taken.
use Rattle.std.proofs.Common.{◌≡◌, ◌≢◌, ◌⊎◌, ◌↔◌, inl, inr, ℕ, suc, ◌+◌, ◌-◌, ◌≤◌, List, [], ◌∷◌, length, map, Some, None, Bool, true, false, refl, sym, ap, ◌∙◌, subst, arith}
use mathlib.Core.Bool.{false≢true}
use Rattle.std.specs.Prelude.{Option, min, IsSome}
use Rattle.std.specs.Ordering.{is_eq}
use Rattle.std.specs.Option.{is_some}
use Rattle.std.specs.List.{AllByRecursion}
use Rattle.std.specs.declared.cmp.Ordering.{Ordering}
use Rattle.std.specs.declared.cmp.Ordering.TheVariants.{Less, Equal, Greater}
use Rattle.std.proofs.lemmas.Bool.{cases_eq}
use Rattle.rep_lists.specs.Rising.{find_at, put_at}
use Rattle.rep_values.specs.declared.value.Value.{Value}
use Rattle.rep_schema.specs.Tables.{Cells, picked}
use Rattle.page_tables.specs.Pages.{Paged}
use Rattle.page_tables.specs.Slots.{Slotted, slot_row, values_or_none, SlotHolds}
use Rattle.page_tables.specs.Index.{UniqueSlots, IsIn, IsUniqueIndex, picked_cmp, values_in, is_alike, with_slot, without_slot, listed, unlisted, CanEnter, CanList, IsFreeBeside}
use Rattle.page_tables.specs.Stored.{room_of, IsIndexOf, IsStored}
use Rattle.page_tables.proofs.InIndex.{in_put, length-put_new, index_take, index_none, index_put, index_change, picked_cmp_total, exact_picked}
use Rattle.page_tables.proofs.InRows.{in_some, least_most-map, listed-most, unlisted-most, is_alike-none, values_other}

not_tied : (a b : List (Option Value)) → a ≢ b → picked_cmp a b ≢ Equal
not_tied a b differ tied = differ (exact_picked a b tied)

-- a slot without a row is in no order
pub unheld_out : (slots : Slotted) (order : Paged) (indexes : List UniqueSlots) (slot : ℕ) → IsStored slots order indexes → slot_row slots.rows slot ≡ None → ¬ IsIn slot order.items
unheld_out slots order indexes slot is none there = false≢true (rw none at (is.held slot there))

-- a new row
module _ (slots now : Slotted) (order : Paged) (slot : ℕ) (row : Cells) (at : ℕ → Ordering) (holds : SlotHolds slots now slot (Some row)) (out : ¬ IsIn slot order.items) (none : find_at at order.items ≡ None) where
  -- the slots of the rows that were there have the values that they had
  same_new : (places : List ℕ) (t : ℕ) → IsIn t order.items → values_in slots.rows places t ≡ values_in now.rows places t
  same_new places t there = values_other slots now slot (Some row) holds places t (λ same. out (subst (λ s. IsIn s order.items) same there))

  now_row : (places : List ℕ) → values_in now.rows places slot ≡ picked places row
  now_row places = ap (λ r. picked places (values_or_none r)) holds.here

  fresh_now : (index : UniqueSlots) → IsFreeBeside slots.rows order.items slot row index → (t : ℕ) → IsIn t order.items → picked_cmp (values_in now.rows index.columns t) (values_in now.rows index.columns slot) ≢ Equal
  fresh_now index fresh t there = not_tied _ _ (λ same. fresh.free t there (λ at_slot. out (subst (λ s. IsIn s order.items) at_slot there)) (same_new index.columns t there ∙ (same ∙ now_row index.columns)))

  is_now : (index : UniqueSlots) → IsIndexOf slots order index → IsUniqueIndex (values_in now.rows index.columns) picked_cmp (λ t. IsIn t order.items) (length order.items) index.items
  is_now index is = index_change (values_in slots.rows index.columns) (values_in now.rows index.columns) picked_cmp (λ t. IsIn t order.items) (λ t. IsIn t order.items) _ _ index.items
      (λ t. (λ there. there, λ there. there)) refl (same_new index.columns) is

  -- can be put in an index
  can_new_one : (index : UniqueSlots) → IsIndexOf slots order index → IsFreeBeside slots.rows order.items slot row index → suc (length order.items) ≤ index.most → CanList now.rows slot None index
  can_new_one index is fresh room = λ other.
      let here = is_now index is in
      record {
        rising = here.rising;
        none = index_none (values_in now.rows index.columns) picked_cmp picked_cmp_total (λ t. IsIn t order.items) (length order.items) index.items here (values_in now.rows index.columns slot) (fresh_now index fresh);
        room = omega (arith, room, here.count);
      }

  pub can_new : (indexes : List UniqueSlots) → AllByRecursion (IsIndexOf slots order) indexes → AllByRecursion (IsFreeBeside slots.rows order.items slot row) indexes → AllByRecursion (λ index. suc (length order.items) ≤ index.most) indexes
      → AllByRecursion (CanList now.rows slot None) indexes
  can_new [] is fresh room = tt
  can_new (index ∷ indexes) is fresh room = (can_new_one index is.0 fresh.0 room.0, can_new indexes is.1 fresh.1 room.1)

  -- and is indexed then
  module _ (after : Paged) (put : after.items ≡ put_at at slot order.items) (most : after.most ≡ order.most) where
    count_new : length after.items ≡ suc (length order.items)
    count_new = let longer = length-put_new at slot order.items (ap is_some none) in let long = ap length put in omega (arith, longer, long)

    in_new : (t : ℕ) → IsIn t after.items ↔ ((t ≡ slot) ⊎ IsIn t order.items)
    in_new t = subst (λ xs. IsIn t xs ↔ ((t ≡ slot) ⊎ IsIn t order.items)) (sym put) (in_put at slot t order.items none)

    indexed_new_one : (index : UniqueSlots) → IsIndexOf slots order index → IsFreeBeside slots.rows order.items slot row index → IsIndexOf now after (with_slot now.rows slot index)
    indexed_new_one index is fresh =
        let here = is_now index is in
        let one = index_put (values_in now.rows index.columns) picked_cmp picked_cmp_total (λ t. IsIn t order.items) (length order.items) index.items here slot (fresh_now index fresh) in
        index_change (values_in now.rows index.columns) (values_in now.rows index.columns) picked_cmp (λ t. (t ≡ slot) ⊎ IsIn t order.items) (λ t. IsIn t after.items) _ _ _
        (λ t. ((in_new t).1, (in_new t).0)) (sym count_new) (λ t has. refl) one

    indexed_new : (indexes : List UniqueSlots) → AllByRecursion (IsIndexOf slots order) indexes → AllByRecursion (IsFreeBeside slots.rows order.items slot row) indexes → AllByRecursion (IsIndexOf now after) (map (listed now.rows slot None) indexes)
    indexed_new [] is fresh = tt
    indexed_new (index ∷ indexes) is fresh = (indexed_new_one index is.0 fresh.0, indexed_new indexes is.1 fresh.1)

    pub stored_new : (indexes : List UniqueSlots) → IsStored slots order indexes → AllByRecursion (IsFreeBeside slots.rows order.items slot row) indexes → suc (length order.items) ≤ room_of slots order indexes
        → length now.rows + length slots.free ≡ length slots.rows + length now.free + 1 → IsStored now after (map (listed now.rows slot None) indexes)
    stored_new indexes is fresh room one = record {
      held = λ t there. elim ((in_new t).0 there) [
        | inl same ↦ subst (λ s. IsSome (slot_row now.rows s)) (sym same) (rw holds.here refl)
        | inr old ↦ rw (holds.others t (λ same. out (subst (λ s. IsIn s order.items) same old))) (is.held t old)
      ];
      indexed = indexed_new indexes is.indexed fresh;
      number = omega (arith, count_new, one, is.number);
      fits =
          let same = least_most-map (listed now.rows slot None) (listed-most now.rows slot None) (min now.most after.most) indexes in
          rw (same, holds.most, most) (omega (arith, count_new, room));
      few = rw holds.most is.few;
    }

-- another row in a slot
module _ (slots now : Slotted) (order : Paged) (slot : ℕ) (before row : Cells) (holds : SlotHolds slots now slot (Some row)) (there : IsIn slot order.items) (was : slot_row slots.rows slot ≡ Some before) where
  abbrev Others : ℕ → Type 0
  Others t = IsIn t order.items × (t ≢ slot)

  old_row : (places : List ℕ) → values_in slots.rows places slot ≡ picked places before
  old_row places = ap (λ r. picked places (values_or_none r)) was

  new_row : (places : List ℕ) → values_in now.rows places slot ≡ picked places row
  new_row places = ap (λ r. picked places (values_or_none r)) holds.here

  -- the indexes in which both rows have the same values stay as they are
  abbrev stays : UniqueSlots → Bool
  stays index = is_eq (picked_cmp (picked index.columns before) (picked index.columns row))

  alike_before : (index : UniqueSlots) → is_alike index.columns (slot_row slots.rows slot) (Some row) ≡ stays index
  alike_before index = ap (λ r. is_alike index.columns r (Some row)) was

  alike_after : (index : UniqueSlots) → is_alike index.columns (Some before) (slot_row now.rows slot) ≡ stays index
  alike_after index = ap (λ r. is_alike index.columns (Some before) r) holds.here

  stays_same : (a b : List (Option Value)) → is_eq (picked_cmp a b) ≡ true → a ≡ b
  stays_same a b same = exact_picked a b (tied (picked_cmp a b) same)
    where
      tied : (o : Ordering) → is_eq o ≡ true → o ≡ Equal
      tied Less same = absurd (false≢true same)
      tied Equal same = refl
      tied Greater same = absurd (false≢true same)

  kept_one : (index : UniqueSlots) → IsIndexOf slots order index → stays index ≡ true → IsIndexOf now order index
  kept_one index is same = index_change (values_in slots.rows index.columns) (values_in now.rows index.columns) picked_cmp (λ t. IsIn t order.items) (λ t. IsIn t order.items) _ _ index.items
      (λ t. (λ has. has, λ has. has)) refl
      (λ t has. elim (cases_eq t slot) [
        | inl at_slot ↦
            let values = stays_same _ _ same in
            subst (λ s. values_in slots.rows index.columns s ≡ values_in now.rows index.columns s) (sym at_slot) (old_row index.columns ∙ (values ∙ sym (new_row index.columns)))
        | inr other ↦ values_other slots now slot (Some row) holds index.columns t other
      ]) is

  rest_count : suc (length order.items - 1) ≡ length order.items
  rest_count = let some = in_some slot order.items there in omega (arith, some)

  -- what an index has without the slot
  rest_now : (index : UniqueSlots) → IsIndexOf slots order index → IsUniqueIndex (values_in now.rows index.columns) picked_cmp Others (length order.items - 1) (without_slot slots.rows slot index).items
  rest_now index is =
      let less = index_take (values_in slots.rows index.columns) picked_cmp picked_cmp_total (λ t. IsIn t order.items) (length order.items) index.items is slot (length order.items - 1) there rest_count in
      index_change (values_in slots.rows index.columns) (values_in now.rows index.columns) picked_cmp Others Others _ _ _
      (λ t. (λ has. has, λ has. has)) refl (λ t has. values_other slots now slot (Some row) holds index.columns t has.1) less

  free_now : (index : UniqueSlots) → IsFreeBeside slots.rows order.items slot row index → (t : ℕ) → Others t → picked_cmp (values_in now.rows index.columns t) (values_in now.rows index.columns slot) ≢ Equal
  free_now index fresh t has = not_tied _ _ (λ same. fresh.free t has.0 has.1 (values_other slots now slot (Some row) holds index.columns t has.1 ∙ (same ∙ new_row index.columns)))

  moved_one : (index : UniqueSlots) → IsIndexOf slots order index → IsFreeBeside slots.rows order.items slot row index → IsIndexOf now order (with_slot now.rows slot (without_slot slots.rows slot index))
  moved_one index is fresh =
      let rest = rest_now index is in
      let one = index_put (values_in now.rows index.columns) picked_cmp picked_cmp_total Others (length order.items - 1) (without_slot slots.rows slot index).items rest slot (free_now index fresh) in
      index_change (values_in now.rows index.columns) (values_in now.rows index.columns) picked_cmp (λ t. (t ≡ slot) ⊎ Others t) (λ t. IsIn t order.items) _ _ _
      (λ t. (
        λ has. elim has [ inl same ↦ subst (λ s. IsIn s order.items) (sym same) there | inr others ↦ others.0 ],
        λ has. elim (cases_eq t slot) [ inl same ↦ inl same | inr other ↦ inr (has, other) ],
      )) rest_count (λ t has. refl) one

  can_move_one : (index : UniqueSlots) → IsIndexOf slots order index → IsFreeBeside slots.rows order.items slot row index → length order.items ≤ index.most → CanEnter now.rows slot (without_slot slots.rows slot index)
  can_move_one index is fresh room =
      let rest = rest_now index is in
      record {
        rising = rest.rising;
        none = index_none (values_in now.rows index.columns) picked_cmp picked_cmp_total Others (length order.items - 1) (without_slot slots.rows slot index).items rest (values_in now.rows index.columns slot) (free_now index fresh);
        room = let count = rest.count in let whole = rest_count in omega (arith, room, count, whole);
      }

  -- each index can take the slot in again
  pub can_move : (indexes : List UniqueSlots) → AllByRecursion (IsIndexOf slots order) indexes → AllByRecursion (IsFreeBeside slots.rows order.items slot row) indexes → AllByRecursion (λ index. length order.items ≤ index.most) indexes
      → AllByRecursion (CanList now.rows slot (Some before)) (map (unlisted slots.rows slot (Some row)) indexes)
  can_move [] is fresh room = tt
  can_move (index ∷ indexes) is fresh room = (go (stays index) refl, can_move indexes is.1 fresh.1 room.1)
    where
      go : (b : Bool) → stays index ≡ b → CanList now.rows slot (Some before) (unlisted slots.rows slot (Some row) index)
      go true same = rw (alike_before index, same) (λ other. absurd (false≢true (sym other ∙ (alike_after index ∙ same))))
      go false differ = rw (alike_before index, differ) (λ other. can_move_one index is.0 fresh.0 room.0)

  -- and is an index then
  indexed_moved : (indexes : List UniqueSlots) → AllByRecursion (IsIndexOf slots order) indexes → AllByRecursion (IsFreeBeside slots.rows order.items slot row) indexes
      → AllByRecursion (IsIndexOf now order) (map (listed now.rows slot (Some before)) (map (unlisted slots.rows slot (Some row)) indexes))
  indexed_moved [] is fresh = tt
  indexed_moved (index ∷ indexes) is fresh = (go (stays index) refl, indexed_moved indexes is.1 fresh.1)
    where
      go : (b : Bool) → stays index ≡ b → IsIndexOf now order (listed now.rows slot (Some before) (unlisted slots.rows slot (Some row) index))
      go true same = rw (alike_before index, same, alike_after index, same) (kept_one index is.0 same)
      go false differ = rw (alike_before index, differ, alike_after index, differ) (moved_one index is.0 fresh.0)

  pub stored_moved : (indexes : List UniqueSlots) → IsStored slots order indexes → AllByRecursion (IsFreeBeside slots.rows order.items slot row) indexes → length now.rows ≡ length slots.rows → now.free ≡ slots.free
      → IsStored now order (map (listed now.rows slot (Some before)) (map (unlisted slots.rows slot (Some row)) indexes))
  stored_moved indexes is fresh number free = record {
    held = λ t has. elim (cases_eq t slot) [
      | inl same ↦ subst (λ s. IsSome (slot_row now.rows s)) (sym same) (rw holds.here refl)
      | inr other ↦ rw (holds.others t other) (is.held t has)
    ];
    indexed = indexed_moved indexes is.indexed fresh;
    number = rw (free, number) is.number;
    fits =
        let taken = least_most-map (unlisted slots.rows slot (Some row)) (unlisted-most slots.rows slot (Some row)) (min now.most order.most) indexes in
        let put = least_most-map (listed now.rows slot (Some before)) (listed-most now.rows slot (Some before)) (min now.most order.most) (map (unlisted slots.rows slot (Some row)) indexes) in
        rw (put, taken, holds.most) is.fits;
    few = rw holds.most is.few;
  }

-- a slot without its row
module _ (slots now : Slotted) (order after : Paged) (slot : ℕ) (holds : SlotHolds slots now slot None) (there : IsIn slot order.items)
    (in_after : (t : ℕ) → IsIn t after.items ↔ (IsIn t order.items × (t ≢ slot))) (count : suc (length after.items) ≡ length order.items) (most : after.most ≡ order.most) where
  indexed_taken_one : (index : UniqueSlots) → IsIndexOf slots order index → IsIndexOf now after (unlisted slots.rows slot None index)
  indexed_taken_one index is =
      let less = index_take (values_in slots.rows index.columns) picked_cmp picked_cmp_total (λ t. IsIn t order.items) (length order.items) index.items is slot (length after.items) there count in
      rw (is_alike-none index.columns (slot_row slots.rows slot)) (index_change (values_in slots.rows index.columns) (values_in now.rows index.columns) picked_cmp (λ t. IsIn t order.items × (t ≢ slot)) (λ t. IsIn t after.items) _ _ _
      (λ t. ((in_after t).1, (in_after t).0)) refl (λ t has. values_other slots now slot None holds index.columns t has.1) less)

  indexed_taken : (indexes : List UniqueSlots) → AllByRecursion (IsIndexOf slots order) indexes → AllByRecursion (IsIndexOf now after) (map (unlisted slots.rows slot None) indexes)
  indexed_taken [] is = tt
  indexed_taken (index ∷ indexes) is = (indexed_taken_one index is.0, indexed_taken indexes is.1)

  pub stored_taken : (indexes : List UniqueSlots) → IsStored slots order indexes → length now.rows ≡ length slots.rows → length now.free ≡ length slots.free + 1
      → IsStored now after (map (unlisted slots.rows slot None) indexes)
  stored_taken indexes is number free = record {
    held = λ t has. (let was = (in_after t).0 has in rw (holds.others t was.1) (is.held t was.0));
    indexed = indexed_taken indexes is.indexed;
    number = omega (arith, is.number, number, free, count);
    fits =
        let taken = least_most-map (unlisted slots.rows slot None) (unlisted-most slots.rows slot None) (min now.most after.most) indexes in
        rw (taken, holds.most, most) (omega (arith, is.fits, count));
    few = rw holds.most is.few;
  }
