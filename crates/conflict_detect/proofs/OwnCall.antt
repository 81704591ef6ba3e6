-- The row before a change has the old values of the change's call.
use Rattle.std.proofs.Common.{◌≡◌, ℕ, List, [], ◌∷◌, map, true, refl, ap}
use Rattle.std.specs.Prelude.{filter, Option, Some, None}
use Rattle.rep_schema.specs.declared.schema.Schema.{Schema}
use Rattle.rep_schema.specs.declared.change.Change.{Change}
use Rattle.rep_schema.specs.Tables.{Cells}
use Rattle.rep_schema.specs.Groups.{group_values, are_same, differ_in, group_numbers_of}
use Rattle.rep_schema.proofs.ValuesAt.{are_same-Decides}
use Rattle.conflict_detect.specs.declared.detection.Found.TheVariants.{Matches}
use Rattle.conflict_detect.specs.Differing.{unmatched_groups, groups_unlike, found_in, found_of}
use Rattle.conflict_detect.specs.ChangeCalls.{part_between, call_between, call_of}

same_as_itself : (values : Cells) → are_same values values ≡ true
same_as_itself values = (are_same-Decides values values).1 refl

module _ (schema : Schema) (table : ℕ) (row : Cells) where
  -- a row differs from itself in no group
  differ_nowhere : (groups : List ℕ) → filter (differ_in schema table row row) groups ≡ []
  differ_nowhere [] = refl
  differ_nowhere (g ∷ gs) = rw (same_as_itself (group_values schema table g row)) (differ_nowhere gs)

  -- and has the old values of each part that is made of it
  matched_everywhere : (after : Cells) (groups : List ℕ) → unmatched_groups schema table row (map (part_between schema table row after) groups) ≡ []
  matched_everywhere after [] = refl
  matched_everywhere after (g ∷ gs) = rw (same_as_itself (group_values schema table g row)) (matched_everywhere after gs)

pub found_of-own_call : (schema : Schema) (change : Change) (before : Cells) → change.before ≡ Some before → found_of schema (call_of schema change) (Some before) ≡ Matches
found_of-own_call schema change before had = rw had (ap found_in (go change.after))
  where
    go : (after : Option Cells) → groups_unlike schema (call_between schema change.table (Some before) after) before ≡ []
    go None = differ_nowhere schema change.table before (group_numbers_of schema change.table)
    go (Some row) = matched_everywhere schema change.table before row _
