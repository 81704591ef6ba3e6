-- The column groups of a table, what a row has in one, and the groups in which two rows differ.
use Rattle.std.specs.Prelude.{ℕ, ◌+◌, Bool, cond, not, ◌||◌, ◌==◌, List, [], ◌∷◌, ◌++◌, length, Option, Some, None, slice_get, slice_set, filter, filter_map}
use Rattle.std.specs.List.{list_any, range_with_len}
use Rattle.std.specs.Cmp.Lexicographic.{pointwise}
use Rattle.rep_values.specs.Equality.{value_eq}
use Rattle.rep_schema.specs.declared.schema.Schema.{Schema}
use Rattle.rep_schema.specs.declared.schema.TableEntry.{TableEntry}
use Rattle.rep_schema.specs.declared.schema.Column.{Column}
use Rattle.rep_schema.specs.declared.schema.Group.{Group}
use Rattle.rep_schema.specs.Tables.{Cells, columns_of}

-- the number of the shadow group; a named group's number is its place
abbrev pub shadow_group : ℕ
shadow_group = 255

abbrev pub groups_in : Option TableEntry → List Group
groups_in None = []
groups_in (Some entry) = entry.groups

-- the named groups of a table
abbrev pub groups_of : Schema → ℕ → List Group
groups_of schema table = groups_in (slice_get schema.tables table)

-- a column of some named group
abbrev pub is_grouped : List Group → ℕ → Bool
is_grouped groups column = list_any (λ group. list_any (λ c. c == column) group.columns) groups

-- the columns, counted from n, that are no key columns and in no named group
abbrev pub shadow_from : List Group → ℕ → List Column → List ℕ
shadow_from groups n [] = []
shadow_from groups n (c ∷ cs) = cond (c.key || is_grouped groups n) (shadow_from groups (n + 1) cs) (n ∷ shadow_from groups (n + 1) cs)

-- the columns of a table that are no key columns and in no named group
abbrev pub shadow_columns_of : Schema → ℕ → List ℕ
shadow_columns_of schema table = shadow_from (groups_of schema table) 0 (columns_of schema table)

abbrev pub named_columns : Option Group → List ℕ
named_columns None = []
named_columns (Some group) = group.columns

-- the columns of the shadow group where they are there, else those that are named
abbrev pub held_columns : Option (List ℕ) → List ℕ → List ℕ
held_columns None named = named
held_columns (Some shadow) named = shadow

-- the columns of a table's group, by the group's number; none where the table has no such group
unfoldable pub group_columns_of : Schema → ℕ → ℕ → List ℕ
group_columns_of schema table group = cond (group == shadow_group) (shadow_columns_of schema table) (named_columns (slice_get (groups_of schema table) group))

-- the numbers of a table's groups: the named ones in declared order, then the shadow group
abbrev pub group_numbers_of : Schema → ℕ → List ℕ
group_numbers_of schema table = range_with_len 0 (length (groups_of schema table)) ++ shadow_group ∷ []

-- what a list has at these places, in their order
abbrev pub values_at : {X : Type 0} → List ℕ → List X → List X
values_at places xs = filter_map (slice_get xs) places

-- the list with these values at these places
abbrev pub with_values : {X : Type 0} → List ℕ → List X → List X → List X
with_values [] values xs = xs
with_values (p ∷ ps) [] xs = xs
with_values (p ∷ ps) (v ∷ vs) xs = with_values ps vs (slice_set xs p v)

-- the columns themselves of a table's group
abbrev pub columns_in_group : Schema → ℕ → ℕ → List Column
columns_in_group schema table group = values_at (group_columns_of schema table group) (columns_of schema table)

-- a row's values in a group
abbrev pub group_values : Schema → ℕ → ℕ → Cells → Cells
group_values schema table group row = values_at (group_columns_of schema table group) row

-- the row with these values in a group
abbrev pub with_group_values : Schema → ℕ → ℕ → Cells → Cells → Cells
with_group_values schema table group values row = with_values (group_columns_of schema table group) values row

-- the same values, place by place
abbrev pub are_same : Cells → Cells → Bool
are_same = pointwise value_eq

-- two rows have other values in a group
abbrev pub differ_in : Schema → ℕ → Cells → Cells → ℕ → Bool
differ_in schema table a b group = not (are_same (group_values schema table group a) (group_values schema table group b))

-- the groups in which two rows of a table differ
abbrev pub differing_groups : Schema → ℕ → Cells → Cells → List ℕ
differing_groups schema table a b = filter (differ_in schema table a b) (group_numbers_of schema table)
