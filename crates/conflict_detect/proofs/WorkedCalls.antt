-- Transactions that fit and that don't, differing groups and calls of changed rows, worked out by hand.
use Rattle.std.proofs.Common.{◌≡◌, List, [], ◌∷◌, true, false, refl, pos, negsuc}
use Rattle.std.specs.Prelude.{codes, Some, None}
use Rattle.rep_values.specs.declared.value.Value.TheVariants.{Num, Words}
use Rattle.rep_schema.specs.declared.schema.Schema.{Schema}
use Rattle.rep_schema.specs.declared.schema.TableEntry.{TableEntry}
use Rattle.rep_schema.specs.declared.schema.Column.{Column}
use Rattle.rep_schema.specs.declared.schema.Group.{Group}
use Rattle.rep_schema.specs.declared.schema.Kind.TheVariants as kind
use Rattle.rep_schema.specs.Tables.{Cells}
use Rattle.rep_schema.specs.Groups.{group_columns_of}
use Rattle.rep_calls.specs.declared.call.Part.{Part}
use Rattle.rep_calls.specs.declared.call.Call.{Call}
use Rattle.rep_calls.specs.declared.call.Call.TheVariants.{Insert, Update, Delete}
use Rattle.conflict_detect.specs.declared.detection.Found.TheVariants.{NoRow, Matches, Differs}
use Rattle.conflict_detect.specs.FitTests.{txn_fits}
use Rattle.conflict_detect.specs.Differing.{found_of}
use Rattle.conflict_detect.specs.ChangeCalls.{call_of, with_parts, parts_between}

-- the columns ID (the key), Q, NOTE, NAME and AT, the groups n of NAME and AT and q of Q
abbrev columns : List Column
columns =
    record { name = codes "ID"; kind = kind.Number; key = true }
    ∷ record { name = codes "Q"; kind = kind.Number; key = false }
    ∷ record { name = codes "NOTE"; kind = kind.Words; key = false }
    ∷ record { name = codes "NAME"; kind = kind.Words; key = false }
    ∷ record { name = codes "AT"; kind = kind.Stamp; key = false }
    ∷ []

abbrev groups : List Group
groups = record { name = codes "n"; columns = 3 ∷ 4 ∷ []; methods = [] } ∷ record { name = codes "q"; columns = 1 ∷ []; methods = [] } ∷ []

abbrev table_t : TableEntry
table_t = record { name = record { 0 = codes "T" }; columns = columns; groups = groups; key_methods = []; constraints = []; checks = []; convergent = false }

abbrev schema : Schema
schema = record { sites = []; tables = table_t ∷ []; priorities = [] }

abbrev row : Cells
row = Num (pos 1) ∷ Num (pos 10) ∷ Words (codes "x") ∷ Words (codes "a") ∷ Num (pos 0) ∷ []

-- Q and AT changed
abbrev row_q_at : Cells
row_q_at = Num (pos 1) ∷ Num (negsuc 4) ∷ Words (codes "x") ∷ Words (codes "a") ∷ Num (pos 3) ∷ []

-- NOTE changed
abbrev row_note : Cells
row_note = Num (pos 1) ∷ Num (pos 10) ∷ Words (codes "y") ∷ Words (codes "a") ∷ Num (pos 0) ∷ []

abbrev key : Cells
key = Num (pos 1) ∷ []

abbrev part_n : Part
part_n = record { group = 0; old = Words (codes "a") ∷ Num (pos 0) ∷ []; new = Words (codes "a") ∷ Num (pos 3) ∷ [] }

abbrev part_q : Part
part_q = record { group = 1; old = Num (pos 10) ∷ []; new = Num (negsuc 4) ∷ [] }

abbrev part_shadow : Part
part_shadow = record { group = 255; old = Words (codes "x") ∷ []; new = Words (codes "y") ∷ [] }

-- the call of a changed row
update_has_the_changed_groups : call_of schema (record { table = 0; before = Some row; after = Some row_q_at }) ≡ Update 0 key (part_n ∷ part_q ∷ [])
unfolding group_columns_of
update_has_the_changed_groups = refl

update_of_the_shadow_group : call_of schema (record { table = 0; before = Some row; after = Some row_note }) ≡ Update 0 key (part_shadow ∷ [])
unfolding group_columns_of
update_of_the_shadow_group = refl

new_row_is_inserted : call_of schema (record { table = 0; before = None; after = Some row }) ≡ Insert 0 row
new_row_is_inserted = refl

old_row_is_deleted : call_of schema (record { table = 0; before = Some row; after = None }) ≡ Delete 0 row
old_row_is_deleted = refl

new_values_give_the_row_after : with_parts schema 0 (parts_between schema 0 row row_q_at) row ≡ row_q_at
unfolding group_columns_of
new_values_give_the_row_after = refl

-- what is found of the row
no_row_is_found : found_of schema (Update 0 key (part_q ∷ [])) None ≡ NoRow
no_row_is_found = refl

old_values_are_there : found_of schema (Update 0 key (part_n ∷ part_q ∷ [])) (Some row) ≡ Matches
unfolding group_columns_of
old_values_are_there = refl

other_groups_may_differ : found_of schema (Update 0 key (part_q ∷ [])) (Some row_note) ≡ Matches
unfolding group_columns_of
other_groups_may_differ = refl

both_parts_differ : found_of schema (Update 0 key (part_n ∷ part_q ∷ part_shadow ∷ [])) (Some row_q_at) ≡ Differs (0 ∷ 1 ∷ [])
unfolding group_columns_of
both_parts_differ = refl

shadow_part_differs : found_of schema (Update 0 key (part_n ∷ part_shadow ∷ [])) (Some row_note) ≡ Differs (255 ∷ [])
unfolding group_columns_of
shadow_part_differs = refl

deleted_row_is_there : found_of schema (Delete 0 row) (Some row) ≡ Matches
unfolding group_columns_of
deleted_row_is_there = refl

deleted_row_differs : found_of schema (Delete 0 row_q_at) (Some row_note) ≡ Differs (0 ∷ 1 ∷ 255 ∷ [])
unfolding group_columns_of
deleted_row_differs = refl

deleted_row_differs_in_the_shadow_group : found_of schema (Delete 0 row) (Some row_note) ≡ Differs (255 ∷ [])
unfolding group_columns_of
deleted_row_differs_in_the_shadow_group = refl

-- calls that fit
all_three_kinds_fit : txn_fits schema (record { calls = Insert 0 row ∷ Update 0 key (part_n ∷ part_q ∷ part_shadow ∷ []) ∷ Delete 0 row ∷ [] }) ≡ true
unfolding group_columns_of
all_three_kinds_fit = refl

abbrev alone : Call → Type 0
alone call = txn_fits schema (record { calls = Insert 0 row ∷ call ∷ [] }) ≡ false

-- and calls that don't: the table is beyond the schema
no_such_table : alone (Insert 1 row)
no_such_table = refl

-- a value is missing, one is too many, one is of the wrong kind
row_too_short : alone (Insert 0 (Num (pos 1) ∷ Num (pos 10) ∷ Words (codes "x") ∷ Words (codes "a") ∷ []))
row_too_short = refl

row_too_long : alone (Delete 0 (Num (pos 1) ∷ Num (pos 10) ∷ Words (codes "x") ∷ Words (codes "a") ∷ Num (pos 0) ∷ Num (pos 0) ∷ []))
row_too_long = refl

text_for_a_number : alone (Delete 0 (Num (pos 1) ∷ Words (codes "x") ∷ Words (codes "x") ∷ Words (codes "a") ∷ Num (pos 0) ∷ []))
text_for_a_number = refl

-- a number is out of range, in a row, a key and a part
row_out_of_range : alone (Insert 0 (Num (pos 1) ∷ Num (pos 1000000000000001) ∷ Words (codes "x") ∷ Words (codes "a") ∷ Num (pos 0) ∷ []))
row_out_of_range = refl

key_out_of_range : alone (Update 0 (Num (negsuc 1000000000000000) ∷ []) (part_q ∷ []))
unfolding group_columns_of
key_out_of_range = refl

part_out_of_range : alone (Update 0 key (record part_q { new = Num (negsuc 1000000000000000) ∷ [] } ∷ []))
unfolding group_columns_of
part_out_of_range = refl

-- the key has too many values, or one of the wrong kind
key_too_long : alone (Update 0 (Num (pos 1) ∷ Num (pos 2) ∷ []) (part_q ∷ []))
unfolding group_columns_of
key_too_long = refl

text_for_a_key : alone (Update 0 (Words (codes "x") ∷ []) (part_q ∷ []))
unfolding group_columns_of
text_for_a_key = refl

-- no part, an unknown group, groups that fall, one group twice
no_part : alone (Update 0 key [])
no_part = refl

no_such_group : alone (Update 0 key (record part_q { group = 2 } ∷ []))
unfolding group_columns_of
no_such_group = refl

groups_fall : alone (Update 0 key (part_q ∷ part_n ∷ []))
unfolding group_columns_of
groups_fall = refl

shadow_group_first : alone (Update 0 key (part_shadow ∷ part_q ∷ []))
unfolding group_columns_of
shadow_group_first = refl

group_twice : alone (Update 0 key (part_q ∷ part_q ∷ []))
unfolding group_columns_of
group_twice = refl

-- the values are fewer than the group's columns, or of another kind, or old and new are the same
part_too_short : alone (Update 0 key (record part_n { new = Words (codes "a") ∷ [] } ∷ []))
unfolding group_columns_of
part_too_short = refl

part_of_another_kind : alone (Update 0 key (record part_n { old = Words (codes "a") ∷ Words (codes "b") ∷ [] } ∷ []))
unfolding group_columns_of
part_of_another_kind = refl

nothing_differs : alone (Update 0 key (record part_q { new = part_q.old } ∷ []))
unfolding group_columns_of
nothing_differs = refl
