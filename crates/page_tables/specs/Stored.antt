-- What contracts see of a store whose rows stand in slots, in the order of pages.
use Rattle.std.specs.Prelude.{◌≡◌, ℕ, ◌+◌, ◌≤◌, List, [], ◌∷◌, length, map, min, IsSome}
use Rattle.std.specs.List.{AllByRecursion}
use Rattle.rep_schema.specs.declared.schema.TableEntry.{TableEntry}
use Rattle.rep_schema.specs.declared.schema.Constraint.{Constraint}
use Rattle.rep_schema.specs.Tables.{Rows}
use Rattle.page_tables.specs.Pages.{Paged}
use Rattle.page_tables.specs.Slots.{Slotted, slot_row, row_in}
use Rattle.page_tables.specs.Index.{UniqueSlots, IsIn, IsUniqueIndex, picked_cmp, values_in}

-- the rows of one table, the columns of each of its constraints, and for how many more rows there is room
pub record StoredTable : Type 0 where
  pub rows : Rows
  pub uniques : List (List ℕ)
  pub spare : ℕ

-- for how many there is room in each of the indexes, and at most so many
abbrev pub least_most : ℕ → List UniqueSlots → ℕ
least_most most [] = most
least_most most (index ∷ indexes) = min index.most (least_most most indexes)

-- for how many rows there is room in all
abbrev pub room_of : Slotted → Paged → List UniqueSlots → ℕ
room_of slots order indexes = least_most (min slots.most order.most) indexes

-- the rows of the slots, in their order
abbrev pub rows_kept : Slotted → Paged → Rows
rows_kept slots order = map (row_in slots.rows) order.items

-- the slots of an index are those of the order
abbrev pub IsIndexOf : Slotted → Paged → UniqueSlots → Type 0
IsIndexOf slots order index = IsUniqueIndex (values_in slots.rows index.columns) picked_cmp (λ slot. IsIn slot order.items) (length order.items) index.items

-- the slots in order all hold rows, each index has them, and there is room for each
pub record IsStored (slots : Slotted) (order : Paged) (indexes : List UniqueSlots) : Type 0 where
  pub held : (slot : ℕ) → IsIn slot order.items → IsSome (slot_row slots.rows slot)
  pub indexed : AllByRecursion (IsIndexOf slots order) indexes
  pub number : length order.items + length slots.free ≡ length slots.rows
  pub fits : length order.items ≤ room_of slots order indexes
  pub few : slots.most ≤ 4294967295

-- the rows of each table
abbrev pub rows_in : List StoredTable → List Rows
rows_in stored = map (λ t. t.rows) stored

-- the room in each table
abbrev pub spare_in : List StoredTable → List ℕ
spare_in stored = map (λ t. t.spare) stored

-- the columns of the constraints of each table
abbrev pub uniques_in : List StoredTable → List (List (List ℕ))
uniques_in stored = map (λ t. t.uniques) stored

-- the columns of the secondary constraints of a table
abbrev pub columns_of_each : List Constraint → List (List ℕ)
columns_of_each constraints = map (λ constraint. constraint.columns) constraints

-- each table has an index for each of its constraints
abbrev pub AreIndexed : List TableEntry → List StoredTable → Type 0
AreIndexed entries stored = map (λ t. t.uniques) stored ≡ map (λ (entry : TableEntry). columns_of_each entry.constraints) entries
