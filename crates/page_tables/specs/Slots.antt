-- Rows that keep their slot until they are taken.
use Rattle.std.specs.Prelude.{◌≡◌, ◌≢◌, ℕ, ◌-◌, List, [], ◌∷◌, length, slice_get, slice_index_or, Option, Some, None}
use Rattle.std.specs.List.{AllByRecursion}
use Rattle.rep_schema.specs.Tables.{Cells}

abbrev pub in_slot : Option (Option Cells) → Option Cells
in_slot None = None
in_slot (Some row) = row

-- the row of a slot, if it has one
abbrev pub slot_row : List (Option Cells) → ℕ → Option Cells
slot_row rows slot = in_slot (slice_get rows slot)

abbrev pub values_or_none : Option Cells → Cells
values_or_none None = []
values_or_none (Some row) = row

-- the values of the row of a slot; none where it has no row
abbrev pub row_in : List (Option Cells) → ℕ → Cells
row_in rows slot = values_or_none (slot_row rows slot)

-- the slot that the next row gets: one that is free, or else a new one
abbrev pub next_slot : List (Option Cells) → List ℕ → ℕ
next_slot rows free = slice_index_or free (length free - 1) (length rows)

-- no two slots are the same
abbrev pub AreDistinct : List ℕ → Type 0
AreDistinct [] = Unit {0}
AreDistinct (slot ∷ slots) = AllByRecursion (λ other. other ≢ slot) slots × AreDistinct slots

-- the slots that are free: each stands once, and has no row
pub record AreFree (rows : List (Option Cells)) (free : List ℕ) : Type 0 where
  pub empty : AllByRecursion (λ slot. slice_get rows slot ≡ Some None) free
  pub distinct : AreDistinct free

-- rows in slots, the slots that are free, and for how many rows there is room in all
pub record Slotted : Type 0 where
  pub rows : List (Option Cells)
  pub free : List ℕ
  pub most : ℕ

-- a slot has another row, or none, and no other slot is changed
pub record SlotHolds (old new : Slotted) (slot : ℕ) (row : Option Cells) : Type 0 where
  pub here : slot_row new.rows slot ≡ row
  pub others : (other : ℕ) → other ≢ slot → slot_row new.rows other ≡ slot_row old.rows other
  pub most : new.most ≡ old.most
