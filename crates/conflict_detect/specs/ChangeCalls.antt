-- The call that a changed row is sent as, and the row that an update's new values give.
use Rattle.std.specs.Prelude.{ℕ, List, [], ◌∷◌, map, Option, Some, None}
use Rattle.rep_schema.specs.declared.schema.Schema.{Schema}
use Rattle.rep_schema.specs.declared.change.Change.{Change}
use Rattle.rep_schema.specs.Tables.{Cells, columns_of, key_of}
use Rattle.rep_schema.specs.Groups.{group_values, with_group_values, differing_groups}
use Rattle.rep_calls.specs.declared.call.Part.{Part}
use Rattle.rep_calls.specs.declared.call.Call.{Call}
use Rattle.rep_calls.specs.declared.call.Call.TheVariants.{Insert, Update, Delete}

-- all values of a group, old and new
abbrev pub part_between : Schema → ℕ → Cells → Cells → ℕ → Part
part_between schema table before after group = record { group = group; old = group_values schema table group before; new = group_values schema table group after }

-- a part for each group in which two rows differ, the shadow group last
abbrev pub parts_between : Schema → ℕ → Cells → Cells → List Part
parts_between schema table before after = map (part_between schema table before after) (differing_groups schema table before after)

-- an insert, a delete, or an update with the parts of the changed groups; of no row at all an update of nothing
abbrev pub call_between : Schema → ℕ → Option Cells → Option Cells → Call
call_between schema table None None = Update table [] []
call_between schema table None (Some row) = Insert table row
call_between schema table (Some row) None = Delete table row
call_between schema table (Some before) (Some after) = Update table (key_of (columns_of schema table) before) (parts_between schema table before after)

-- the call of a changed row
abbrev pub call_of : Schema → Change → Call
call_of schema change = call_between schema change.table change.before change.after

-- the row with the new values of each part
abbrev pub with_parts : Schema → ℕ → List Part → Cells → Cells
with_parts schema table [] row = row
with_parts schema table (part ∷ parts) row = with_parts schema table parts (with_group_values schema table part.group part.new row)
