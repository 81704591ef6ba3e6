-- An index of unique values: slots of rows in rising order of the values that no two rows share.
use Rattle.std.specs.Prelude.{◌≡◌, ◌≢◌, ◌⊎◌, ◌↔◌, ℕ, ◌<◌, ◌≤◌, List, [], ◌∷◌, length, Option, Some, None, Bool, false, cond}
use Rattle.std.specs.declared.cmp.Ordering.{Ordering}
use Rattle.std.specs.Ordering.{is_eq}
use Rattle.std.specs.Option.{option_cmp}
use Rattle.std.specs.Cmp.Lexicographic.{slice_cmp}
use Rattle.rep_values.specs.Order.{value_cmp}
use Rattle.rep_values.specs.declared.value.Value.{Value}
use Rattle.rep_lists.specs.Rising.{find_at, put_at, take_at}
use Rattle.rep_lists.specs.RisingLaws.{at_key, RisesBy}
use Rattle.rep_schema.specs.Tables.{Cells, picked}
use Rattle.page_tables.specs.Slots.{slot_row, row_in}

-- values beside values, place by place, with none before any
abbrev pub picked_cmp : List (Option Value) → List (Option Value) → Ordering
picked_cmp = slice_cmp (option_cmp value_cmp)

-- the value stands in the list
abbrev pub IsIn : {X : Type 0} → X → List X → Type 0
IsIn s [] = ⊥
IsIn s (x ∷ xs) = (s ≡ x) ⊎ IsIn s xs

-- a list of so many things, each once, in rising order of their values
pub record IsUniqueIndex {X K : Type 0} (values : X → K) (R : K → K → Ordering) (Has : X → Type 0) (number : ℕ) (index : List X) : Type 0 where
  pub rising : RisesBy values R index
  pub same : (s : X) → IsIn s index ↔ Has s
  pub count : length index ≡ number

-- the columns of a constraint, the slots of its index, and for how many there is room in all
pub record UniqueSlots : Type 0 where
  pub columns : List ℕ
  pub items : List ℕ
  pub most : ℕ

-- the values that the row of a slot has in some columns
abbrev pub values_in : List (Option Cells) → List ℕ → ℕ → List (Option Value)
values_in rows columns slot = picked columns (row_in rows slot)

-- both rows are there and have the same values in some columns
abbrev pub is_alike : List ℕ → Option Cells → Option Cells → Bool
is_alike columns None other = false
is_alike columns (Some row) None = false
is_alike columns (Some row) (Some other) = is_eq (picked_cmp (picked columns row) (picked columns other))

-- an index with one more slot, and without one
abbrev pub with_slot : List (Option Cells) → ℕ → UniqueSlots → UniqueSlots
with_slot rows slot index = record {
  columns = index.columns;
  items = put_at (at_key (values_in rows index.columns) picked_cmp (values_in rows index.columns slot)) slot index.items;
  most = index.most;
}

abbrev pub without_slot : List (Option Cells) → ℕ → UniqueSlots → UniqueSlots
without_slot rows slot index = record {
  columns = index.columns;
  items = take_at (at_key (values_in rows index.columns) picked_cmp (values_in rows index.columns slot)) index.items;
  most = index.most;
}

-- the same, where the row that was there before has the values of the slot's row, or the one that comes
abbrev pub listed : List (Option Cells) → ℕ → Option Cells → UniqueSlots → UniqueSlots
listed rows slot other index = cond (is_alike index.columns other (slot_row rows slot)) index (with_slot rows slot index)

abbrev pub unlisted : List (Option Cells) → ℕ → Option Cells → UniqueSlots → UniqueSlots
unlisted rows slot other index = cond (is_alike index.columns (slot_row rows slot) other) index (without_slot rows slot index)

-- the slots rise by the values that their rows have in the constraint
abbrev pub RisesIn : List (Option Cells) → UniqueSlots → Type 0
RisesIn rows index = RisesBy (values_in rows index.columns) picked_cmp index.items

-- a slot's row has values that no row of the index has, and there is room for the slot
pub record CanEnter (rows : List (Option Cells)) (slot : ℕ) (index : UniqueSlots) : Type 0 where
  pub rising : RisesIn rows index
  pub none : find_at (at_key (values_in rows index.columns) picked_cmp (values_in rows index.columns slot)) index.items ≡ None
  pub room : length index.items < index.most

-- and so it is unless the row that was there before has these values
abbrev pub CanList : List (Option Cells) → ℕ → Option Cells → UniqueSlots → Type 0
CanList rows slot other index = is_alike index.columns other (slot_row rows slot) ≡ false → CanEnter rows slot index

-- no other slot of an order has a row with a row's values
pub record IsFreeBeside (rows : List (Option Cells)) (order : List ℕ) (slot : ℕ) (row : Cells) (index : UniqueSlots) : Type 0 where
  pub free : (other : ℕ) → IsIn other order → other ≢ slot → values_in rows index.columns other ≢ picked index.columns row

-- an index with at least as much room
pub record IsRoomier (old new : UniqueSlots) : Type 0 where
  pub columns : new.columns ≡ old.columns
  pub items : new.items ≡ old.items
  pub most : old.most ≤ new.most

-- and so each of them
abbrev pub AreRoomier : List UniqueSlots → List UniqueSlots → Type 0
AreRoomier [] [] = Unit {0}
AreRoomier [] (index ∷ indexes) = ⊥
AreRoomier (index ∷ indexes) [] = ⊥
AreRoomier (old ∷ olds) (new ∷ news) = IsRoomier old new × AreRoomier olds news
