-- A row that is put and one that is taken, in slots, order and indexes.
use Rattle.std.proofs.Common.{◌≡◌, ◌≢◌, ◌⊎◌, ◌↔◌, inl, inr, ℕ, suc, ◌+◌, ◌<◌, ◌≤◌, List, [], ◌∷◌, length, map, Some, None, Result, Ok, Err, OnOk, refl, sym, ap, ◌∙◌, subst, arith}
use mathlib.Core.Bool.{false≢true}
use Rattle.std.specs.Prelude.{Option, min, IsSome, OnSome}
use Rattle.std.specs.Option.{is_some}
use Rattle.std.specs.List.{AllByRecursion}
use Rattle.std.specs.declared.cmp.Ordering.{Ordering}
use Rattle.std.specs.declared.cmp.Ordering.TheVariants.{Less, Equal, Greater}
use Rattle.rep_lists.specs.Rising.{IsRising, find_at, put_at, take_at, found_here, taken_here}
use Rattle.rep_lists.specs.RisingLaws.{at_key}
use Rattle.rep_lists.proofs.Each.{each_then}
use Rattle.rep_values.specs.Order.{key_cmp}
use Rattle.rep_schema.specs.declared.schema.Column.{Column}
use Rattle.rep_schema.specs.Tables.{Cells, key_of, row_cmp, find_row, put_row, take_row, IsHeldElsewhere}
use Rattle.page_tables.specs.Pages.{Paged}
use Rattle.page_tables.specs.Slots.{Slotted, slot_row, row_in, values_or_none, SlotHolds}
use Rattle.page_tables.specs.Index.{UniqueSlots, IsIn, listed, unlisted, RisesIn, CanList, IsFreeBeside}
use Rattle.page_tables.specs.Stored.{room_of, rows_kept, IsIndexOf, IsStored}
use Rattle.page_tables.proofs.InIndex.{found_in, length-take_found}
use Rattle.page_tables.proofs.InRows.{key_at, in_some, in_after, each_free_beside, found_none, rows_put, rows_taken, least_each, least_most-map, columns_map, listed-columns, listed-most, unlisted-columns, unlisted-most}
use Rattle.page_tables.proofs.RowSteps.{unheld_out, can_new, stored_new, can_move, stored_taken}
use Rattle.page_tables.proofs.RoomyIndexes.{roomier_self, stored_roomier}

-- the indexes rise
pub rising_each : (slots : Slotted) (order : Paged) (indexes : List UniqueSlots) → IsStored slots order indexes → AllByRecursion (RisesIn slots.rows) indexes
rising_each slots order indexes is = each_then (IsIndexOf slots order) (RisesIn slots.rows) (λ index one. one.rising) indexes is.indexed

-- the same order
pub stored_same : (slots : Slotted) (order after : Paged) (indexes : List UniqueSlots) → after.items ≡ order.items → after.most ≡ order.most → IsStored slots order indexes → IsStored slots after indexes
stored_same slots order after indexes items most is = stored_roomier slots slots order after refl refl (omega arith) items (omega (arith, most)) indexes indexes (roomier_self indexes) is.few is

-- what a slot's row is after a change of a slot
pub row_in_here : (slots now : Slotted) (slot : ℕ) (row : Cells) → SlotHolds slots now slot (Some row) → row_in now.rows slot ≡ row
row_in_here slots now slot row holds = ap values_or_none holds.here

pub row_in_others : (slots now : Slotted) (slot : ℕ) (row : Option Cells) → SlotHolds slots now slot row → (other : ℕ) → other ≢ slot → row_in now.rows other ≡ row_in slots.rows other
row_in_others slots now slot row holds other differ = ap values_or_none (holds.others other differ)

-- the room and the columns stay where slots are put in the indexes and taken
pub room_listed : (slots now : Slotted) (order after : Paged) (rows : List (Option Cells)) (slot : ℕ) (row : Option Cells) (indexes : List UniqueSlots) → now.most ≡ slots.most → after.most ≡ order.most
    → room_of now after (map (listed rows slot row) indexes) ≡ room_of slots order indexes
room_listed slots now order after rows slot row indexes most more = rw (least_most-map (listed rows slot row) (listed-most rows slot row) (min now.most after.most) indexes, most, more) refl

pub room_unlisted : (slots now : Slotted) (order after : Paged) (rows : List (Option Cells)) (slot : ℕ) (row : Option Cells) (indexes : List UniqueSlots) → now.most ≡ slots.most → after.most ≡ order.most
    → room_of now after (map (unlisted rows slot row) indexes) ≡ room_of slots order indexes
room_unlisted slots now order after rows slot row indexes most more = rw (least_most-map (unlisted rows slot row) (unlisted-most rows slot row) (min now.most after.most) indexes, most, more) refl

pub columns_listed : (rows : List (Option Cells)) (slot : ℕ) (row : Option Cells) (indexes : List UniqueSlots) → map (λ (index : UniqueSlots). index.columns) (map (listed rows slot row) indexes) ≡ map (λ (index : UniqueSlots). index.columns) indexes
columns_listed rows slot row indexes = columns_map (listed rows slot row) (listed-columns rows slot row) indexes

pub columns_unlisted : (rows : List (Option Cells)) (slot : ℕ) (row : Option Cells) (indexes : List UniqueSlots) → map (λ (index : UniqueSlots). index.columns) (map (unlisted rows slot row) indexes) ≡ map (λ (index : UniqueSlots). index.columns) indexes
columns_unlisted rows slot row indexes = columns_map (unlisted rows slot row) (unlisted-columns rows slot row) indexes

-- a take where nothing is found takes nothing
pub take_absent : {X : Type 0} (at : X → Ordering) (xs : List X) → find_at at xs ≡ None → take_at at xs ≡ xs
take_absent at [] none = refl
take_absent at (x ∷ xs) none = go (at x) none (take_absent at xs)
  where
    go : (o : Ordering) → found_here o x (find_at at xs) ≡ None → (find_at at xs ≡ None → take_at at xs ≡ xs) → taken_here o x xs (take_at at xs) ≡ x ∷ xs
    go Less none later = ap (λ t. x ∷ t) (later none)
    go Equal none later = cc
    go Greater none later = refl

module _ (columns : List Column) (slots : Slotted) (order : Paged) (indexes : List UniqueSlots) (stored : IsStored slots order indexes) (rising : IsRising (row_cmp columns) (rows_kept slots order)) where
  -- a row that is put
  module _ (row : Cells) (unique : AllByRecursion (λ index. ¬ IsHeldElsewhere columns index.columns row (rows_kept slots order)) indexes)
      (room : IsSome (find_row columns (key_of columns row) (rows_kept slots order)) ⊎ (length order.items < room_of slots order indexes)) where
    abbrev Place : ℕ → Ordering
    Place = at_key (key_at columns slots.rows) key_cmp (key_of columns row)

    room_new : find_at Place order.items ≡ None → length order.items < room_of slots order indexes
    room_new none = elim room [
      | inl there ↦ absurd (false≢true (rw (found_none columns slots.rows order.items (key_of columns row) none) at there))
      | inr more ↦ more
    ]

    least : length order.items < room_of slots order indexes → suc (length order.items) ≤ min slots.most order.most
    least more = (least_each (suc (length order.items)) (min slots.most order.most) indexes (omega (arith, more))).0

    pub can_enter : IsSome (find_at Place order.items) ⊎ (length order.items < order.most)
    can_enter = go (find_at Place order.items) refl
      where
        go : (found : Option ℕ) → find_at Place order.items ≡ found → IsSome found ⊎ (length order.items < order.most)
        go None none = inr (let more = least (room_new none) in omega (arith, more))
        go (Some slot) found = inl refl

    -- beside the slot with its key, the row is free
    pub free_found : (found : ℕ) → find_at Place order.items ≡ Some found → AllByRecursion (IsFreeBeside slots.rows order.items found row) indexes
    free_found found is = each_free_beside columns slots.rows order.items rising row found indexes (λ t differ other. differ (let same : Some t ≡ Some found = sym other ∙ is in cc)) unique

    -- where no row has its key
    module _ (none : find_at Place order.items ≡ None) where
      pub can_hold : length slots.rows < slots.most + length slots.free
      can_hold = let more = least (room_new none) in let number = stored.number in omega (arith, more, number)

      free_new : (slot : ℕ) → AllByRecursion (IsFreeBeside slots.rows order.items slot row) indexes
      free_new slot = each_free_beside columns slots.rows order.items rising row slot indexes (λ t differ other. (let both : Some t ≡ None = sym other ∙ none in cc)) unique

      module _ (now : Slotted) (slot : ℕ) (unheld : slot_row slots.rows slot ≡ None) (holds : SlotHolds slots now slot (Some row)) where
        pub can_list : AllByRecursion (CanList now.rows slot None) indexes
        can_list =
            let each = least_each (suc (length order.items)) (min slots.most order.most) indexes (let more = room_new none in omega (arith, more)) in
            can_new slots now order slot row Place holds (unheld_out slots order indexes slot stored unheld) none indexes stored.indexed (free_new slot) each.1

        module _ (after : Paged) (put : after.items ≡ put_at Place slot order.items) where
          pub rows_new : rows_kept now after ≡ put_row columns row (rows_kept slots order)
          rows_new =
              let out = unheld_out slots order indexes slot stored unheld in
              ap (map (row_in now.rows)) put
              ∙ rows_put columns slots.rows order.items now.rows slot row (row_in_here slots now slot row holds)
              (λ t there. row_in_others slots now slot (Some row) holds t (λ same. out (subst (λ s. IsIn s order.items) same there)))

          pub stored_put : after.most ≡ order.most → length now.rows + length slots.free ≡ length slots.rows + length now.free + 1 → IsStored now after (map (listed now.rows slot None) indexes)
          stored_put most one =
              stored_new slots now order slot row Place holds (unheld_out slots order indexes slot stored unheld) none after put most indexes stored (free_new slot) (let more = room_new none in omega (arith, more)) one

  -- a row that is taken
  module _ (key : Cells) (slot : ℕ) (found : find_at (at_key (key_at columns slots.rows) key_cmp key) order.items ≡ Some slot) where
    pub taken_there : IsIn slot order.items
    taken_there = (found_in (at_key (key_at columns slots.rows) key_cmp key) order.items slot found).0

    pub can_release : length slots.free < length slots.rows
    can_release = let some = in_some slot order.items taken_there in let number = stored.number in omega (arith, some, number)

    module _ (now : Slotted) (after : Paged) (holds : SlotHolds slots now slot None) (taken : after.items ≡ take_at (at_key (key_at columns slots.rows) key_cmp key) order.items) where
      pub rows_without : rows_kept now after ≡ take_row columns key (rows_kept slots order)
      rows_without = ap (map (row_in now.rows)) taken ∙ rows_taken columns slots.rows order.items rising now.rows slot key found (row_in_others slots now slot None holds)

      pub stored_without : after.most ≡ order.most → length now.rows ≡ length slots.rows → length now.free ≡ length slots.free + 1 → IsStored now after (map (unlisted slots.rows slot None) indexes)
      stored_without most number free =
          let less = length-take_found (at_key (key_at columns slots.rows) key_cmp key) order.items (ap is_some found) in
          let long = ap length taken in
          stored_taken slots now order after slot holds taken_there
          (λ t. subst (λ xs. IsIn t xs ↔ (IsIn t order.items × (t ≢ slot))) (sym taken) (in_after columns slots.rows order.items rising key slot t found))
          (omega (arith, less, long)) most indexes stored number free

-- another row in a slot
pub can_move_in : (slots now : Slotted) (order : Paged) (indexes : List UniqueSlots) (slot : ℕ) (row before : Cells) → IsStored slots order indexes → SlotHolds slots now slot (Some row) → IsIn slot order.items → slot_row slots.rows slot ≡ Some before
    → AllByRecursion (IsFreeBeside slots.rows order.items slot row) indexes → AllByRecursion (CanList now.rows slot (Some before)) (map (unlisted slots.rows slot (Some row)) indexes)
can_move_in slots now order indexes slot row before stored holds there was free =
    can_move slots now order slot before row holds there was indexes stored.indexed free (least_each (length order.items) (min slots.most order.most) indexes stored.fits).1

-- the room in all is room in each
pub room_each : (most : ℕ) (slots : Slotted) (order : Paged) (indexes : List UniqueSlots) → most ≤ room_of slots order indexes → (most ≤ slots.most) × (most ≤ order.most) × AllByRecursion (λ index. most ≤ index.most) indexes
room_each most slots order indexes fits =
    let each = least_each most (min slots.most order.most) indexes fits in
    let first = each.0 in
    (omega (arith, first), omega (arith, first), each.1)

-- no rows
indexed_empty : (slots : Slotted) (order : Paged) (indexes : List UniqueSlots) → order.items ≡ [] → AllByRecursion (λ (index : UniqueSlots). index.items ≡ []) indexes → AllByRecursion (IsIndexOf slots order) indexes
indexed_empty slots order [] none all = tt
indexed_empty slots order (index ∷ indexes) none all = (rw (none, all.0) (record { rising = tt; same = λ s. (λ there. there, λ there. there); count = refl }), indexed_empty slots order indexes none all.1)

pub stored_empty : (slots : Slotted) (order : Paged) (indexes : List UniqueSlots) → slots.most ≤ 4294967295 → slots.rows ≡ [] → slots.free ≡ [] → order.items ≡ [] → AllByRecursion (λ (index : UniqueSlots). index.items ≡ []) indexes → IsStored slots order indexes
stored_empty slots order indexes few_rows rows free none all =
    let few = ap length none in
    record {
      held = λ slot there. absurd (rw none at there);
      indexed = indexed_empty slots order indexes none all;
      number = rw (none, free, rows) refl;
      fits = omega (arith, few);
      few = few_rows;
    }

-- what follows where a call succeeds
pub on_ok : {A B P Q : Type 0} (r : Result A B) → (P → Q) → OnOk r P → OnOk r Q
on_ok (Ok x) follows p = follows p
on_ok (Err e) follows p = p

-- what holds of what is named holds by the names
pub each_named : (P : List ℕ → Type 0) (indexes : List UniqueSlots) → AllByRecursion P (map (λ (index : UniqueSlots). index.columns) indexes) → AllByRecursion (λ index. P index.columns) indexes
each_named P [] all = tt
each_named P (index ∷ indexes) all = (all.0, each_named P indexes all.1)

-- what holds anyway holds where a call finds something
pub on_some : {A P : Type 0} (r : Option A) → P → OnSome r P
on_some None p = tt
on_some (Some x) p = p
