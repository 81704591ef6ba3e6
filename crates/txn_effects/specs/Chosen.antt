-- Places of columns as marks.
use Rattle.std.specs.Prelude.{ℕ, Bool, false, ◌&&◌, List, slice_index_or}
use Rattle.rep_schema.specs.declared.schema.Schema.{Schema}
use Rattle.rep_schema.specs.Tables.{Cells}
use Rattle.rep_schema.specs.Kinds.{has_place}
use Rattle.rep_schema.specs.Groups.{group_columns_of, differ_in}

-- the place is marked
abbrev pub chosen_at : List Bool → ℕ → Bool
chosen_at marks place = slice_index_or marks place false

-- the column at a place stands in a group, in which two rows differ
abbrev pub is_modified_in : Schema → ℕ → Cells → Cells → ℕ → ℕ → Bool
is_modified_in schema table before after group place = differ_in schema table before after group && has_place (group_columns_of schema table group) place
