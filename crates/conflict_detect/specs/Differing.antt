-- In which groups a call's old values differ from a row.
use Rattle.std.specs.Prelude.{ℕ, Bool, not, List, [], ◌∷◌, map, filter, Option, Some, None}
use Rattle.rep_schema.specs.declared.schema.Schema.{Schema}
use Rattle.rep_schema.specs.Tables.{Cells}
use Rattle.rep_schema.specs.Groups.{group_values, are_same, differing_groups}
use Rattle.rep_calls.specs.declared.call.Part.{Part}
use Rattle.rep_calls.specs.declared.call.Call.{Call}
use Rattle.rep_calls.specs.declared.call.Call.TheVariants.{Insert, Update, Delete}
use Rattle.conflict_detect.specs.declared.detection.Found.{Found}
use Rattle.conflict_detect.specs.declared.detection.Found.TheVariants.{NoRow, Matches, Differs}

-- the row has the part's old values
abbrev pub is_matched : Schema → ℕ → Cells → Part → Bool
is_matched schema table row part = are_same (group_values schema table part.group row) part.old

-- the groups of the parts whose old values the row hasn't
abbrev pub unmatched_groups : Schema → ℕ → Cells → List Part → List ℕ
unmatched_groups schema table row parts = map (λ part. part.group) (filter (λ part. not (is_matched schema table row part)) parts)

-- the groups in which a call's old values differ from a row: of an update those of its parts, of a delete all of the
-- table's. key columns are in no group: the row of an update or a delete was found by its key, so its key is the call's.
-- an insert has no old values
abbrev pub groups_unlike : Schema → Call → Cells → List ℕ
groups_unlike schema (Insert table new) row = []
groups_unlike schema (Update table key parts) row = unmatched_groups schema table row parts
groups_unlike schema (Delete table old) row = differing_groups schema table row old

abbrev pub found_in : List ℕ → Found
found_in [] = Matches
found_in (group ∷ groups) = Differs (group ∷ groups)

-- what is found of the row that a call names: that there is none, that no group differs, or which ones do
abbrev pub found_of : Schema → Call → Option Cells → Found
found_of schema call None = NoRow
found_of schema call (Some row) = found_in (groups_unlike schema call row)
