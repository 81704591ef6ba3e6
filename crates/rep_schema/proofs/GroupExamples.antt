-- The groups of a table worked out by hand.
use Rattle.std.proofs.Common.{◌≡◌, List, [], ◌∷◌, true, false, refl, pos, negsuc}
use Rattle.std.specs.Prelude.{codes}
use Rattle.rep_values.specs.declared.value.Value.TheVariants.{Num, Words}
use Rattle.rep_schema.specs.declared.schema.Schema.{Schema}
use Rattle.rep_schema.specs.declared.schema.TableEntry.{TableEntry}
use Rattle.rep_schema.specs.declared.schema.Column.{Column}
use Rattle.rep_schema.specs.declared.schema.Group.{Group}
use Rattle.rep_schema.specs.declared.schema.Kind.TheVariants as kind
use Rattle.rep_schema.specs.Tables.{Cells}
use Rattle.rep_schema.specs.Groups.{group_columns_of, group_numbers_of, values_at, with_values, group_values, with_group_values, differing_groups}

-- the columns ID (the key), Q, NOTE, NAME and AT
abbrev columns : List Column
columns =
    record { name = codes "ID"; kind = kind.Number; key = true }
    ∷ record { name = codes "Q"; kind = kind.Number; key = false }
    ∷ record { name = codes "NOTE"; kind = kind.Words; key = false }
    ∷ record { name = codes "NAME"; kind = kind.Words; key = false }
    ∷ record { name = codes "AT"; kind = kind.Stamp; key = false }
    ∷ []

-- the groups n of NAME and AT, and q of Q
abbrev group_n : Group
group_n = record { name = codes "n"; columns = 3 ∷ 4 ∷ []; methods = [] }

abbrev group_q : Group
group_q = record { name = codes "q"; columns = 1 ∷ []; methods = [] }

abbrev table_of : List Group → TableEntry
table_of groups = record { name = record { 0 = codes "T" }; columns = columns; groups = groups; key_methods = []; constraints = []; checks = []; convergent = false }

abbrev schema : Schema
schema = record { sites = []; tables = table_of [] ∷ table_of (group_n ∷ group_q ∷ []) ∷ []; priorities = [] }

-- the shadow group has what is neither key nor grouped
shadow_group_has_the_rest : group_columns_of schema 1 255 ≡ 2 ∷ []
unfolding group_columns_of
shadow_group_has_the_rest = refl

-- without named groups it has all but the key
shadow_group_has_all : group_columns_of schema 0 255 ≡ 1 ∷ 2 ∷ 3 ∷ 4 ∷ []
unfolding group_columns_of
shadow_group_has_all = refl

named_group_has_its_columns : group_columns_of schema 1 0 ≡ 3 ∷ 4 ∷ []
unfolding group_columns_of
named_group_has_its_columns = refl

no_third_group : group_columns_of schema 1 2 ≡ []
unfolding group_columns_of
no_third_group = refl

no_third_table : group_columns_of schema 2 255 ≡ []
unfolding group_columns_of
no_third_table = refl

numbers_end_with_the_shadow_group : group_numbers_of schema 1 ≡ 0 ∷ 1 ∷ 255 ∷ []
numbers_end_with_the_shadow_group = refl

-- a row, another one with Q and AT changed, and one with NOTE changed
abbrev row : Cells
row = Num (pos 1) ∷ Num (pos 10) ∷ Words (codes "x") ∷ Words (codes "a") ∷ Num (pos 0) ∷ []

abbrev row_q_at : Cells
row_q_at = Num (pos 1) ∷ Num (negsuc 4) ∷ Words (codes "x") ∷ Words (codes "a") ∷ Num (pos 3) ∷ []

abbrev row_note : Cells
row_note = Num (pos 1) ∷ Num (pos 10) ∷ Words (codes "y") ∷ Words (codes "a") ∷ Num (pos 0) ∷ []

values_come_in_column_order : group_values schema 1 0 row ≡ Words (codes "a") ∷ Num (pos 0) ∷ []
unfolding group_columns_of
values_come_in_column_order = refl

shadow_values_are_the_rest : group_values schema 1 255 row ≡ Words (codes "x") ∷ []
unfolding group_columns_of
shadow_values_are_the_rest = refl

missing_value_is_left_out : values_at (1 ∷ 9 ∷ 0 ∷ []) row ≡ Num (pos 10) ∷ Num (pos 1) ∷ []
missing_value_is_left_out = refl

values_go_to_their_columns : with_group_values schema 1 0 (Words (codes "a") ∷ Num (pos 3) ∷ []) (with_group_values schema 1 1 (Num (negsuc 4) ∷ []) row) ≡ row_q_at
unfolding group_columns_of
values_go_to_their_columns = refl

fewer_values_change_fewer_columns : with_values (2 ∷ 1 ∷ []) (Words (codes "y") ∷ []) row ≡ row_note
fewer_values_change_fewer_columns = refl

-- one changed column is enough for its group to differ
groups_of_the_changed_columns : differing_groups schema 1 row row_q_at ≡ 0 ∷ 1 ∷ []
unfolding group_columns_of
groups_of_the_changed_columns = refl

shadow_group_differs_alone : differing_groups schema 1 row row_note ≡ 255 ∷ []
unfolding group_columns_of
shadow_group_differs_alone = refl

shadow_group_comes_last : differing_groups schema 1 row_q_at row_note ≡ 0 ∷ 1 ∷ 255 ∷ []
unfolding group_columns_of
shadow_group_comes_last = refl

-- without named groups all columns are the shadow group's
one_group_of_all : differing_groups schema 0 row row_q_at ≡ 255 ∷ []
unfolding group_columns_of
one_group_of_all = refl

same_rows_differ_nowhere : differing_groups schema 1 row row ≡ []
unfolding group_columns_of
same_rows_differ_nowhere = refl
