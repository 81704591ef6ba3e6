-- Changes of two tables worked out by hand.
use Rattle.std.proofs.Common.{◌≡◌, ℕ, List, [], ◌∷◌, true, false, refl, pos}
use Rattle.std.specs.Prelude.{codes, Option, Some, None}
use Rattle.rep_values.specs.declared.value.Value.TheVariants.{Num}
use Rattle.rep_schema.specs.declared.schema.Schema.{Schema}
use Rattle.rep_schema.specs.declared.schema.TableEntry.{TableEntry}
use Rattle.rep_schema.specs.declared.schema.Column.{Column}
use Rattle.rep_schema.specs.declared.schema.Kind.TheVariants as kind
use Rattle.rep_schema.specs.declared.change.Change.{Change}
use Rattle.rep_schema.specs.Tables.{Cells, Rows}
use Rattle.rep_schema.specs.Changes.{after_change, before_change, room_for}

-- tables of a key column and another column
abbrev columns : List Column
columns = record { name = codes "ID"; kind = kind.Number; key = true } ∷ record { name = codes "Q"; kind = kind.Number; key = false } ∷ []

abbrev table_of : List ℕ → TableEntry
table_of name = record { name = record { 0 = name }; columns = columns; groups = []; key_methods = []; constraints = []; checks = []; convergent = false }

abbrev schema : Schema
schema = record { sites = []; tables = table_of (codes "T") ∷ table_of (codes "U") ∷ []; priorities = [] }

abbrev row : ℕ → ℕ → Cells
row id q = Num (pos id) ∷ Num (pos q) ∷ []

abbrev change : ℕ → Option Cells → Option Cells → Change
change table before after = record { table = table; before = before; after = after }

abbrev tables : List Rows
tables = (row 1 5 ∷ row 3 7 ∷ []) ∷ [] ∷ []

added : after_change schema (change 0 None (Some (row 2 6))) tables ≡ (row 1 5 ∷ row 2 6 ∷ row 3 7 ∷ []) ∷ [] ∷ []
added = refl

replaced : after_change schema (change 0 (Some (row 3 7)) (Some (row 3 8))) tables ≡ (row 1 5 ∷ row 3 8 ∷ []) ∷ [] ∷ []
replaced = refl

taken : after_change schema (change 0 (Some (row 1 5)) None) tables ≡ (row 3 7 ∷ []) ∷ [] ∷ []
taken = refl

added_to_the_other : after_change schema (change 1 None (Some (row 1 1))) tables ≡ (row 1 5 ∷ row 3 7 ∷ []) ∷ (row 1 1 ∷ []) ∷ []
added_to_the_other = refl

nothing_changed : after_change schema (change 0 None None) tables ≡ tables
nothing_changed = refl

added_row_goes : before_change schema (change 0 None (Some (row 3 7))) tables ≡ (row 1 5 ∷ []) ∷ [] ∷ []
added_row_goes = refl

old_row_comes_back : before_change schema (change 0 (Some (row 3 6)) (Some (row 3 7))) tables ≡ (row 1 5 ∷ row 3 6 ∷ []) ∷ [] ∷ []
old_row_comes_back = refl

taken_row_comes_back : before_change schema (change 0 (Some (row 2 6)) None) tables ≡ (row 1 5 ∷ row 2 6 ∷ row 3 7 ∷ []) ∷ [] ∷ []
taken_row_comes_back = refl

-- taken rows of the one table want room there, added and replaced ones none
abbrev several : List Change
several = change 0 (Some (row 1 5)) None ∷ change 1 None (Some (row 1 1)) ∷ change 0 (Some (row 3 7)) (Some (row 3 8)) ∷ change 0 (Some (row 3 8)) None ∷ []

two_rows_of_room : room_for 0 several ≡ 2
two_rows_of_room = refl

no_room_in_the_other : room_for 1 several ≡ 0
no_room_in_the_other = refl
