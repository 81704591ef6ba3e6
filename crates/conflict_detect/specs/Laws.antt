-- Laws of calls of changed rows, and of what is found of a row.
use Rattle.std.specs.Prelude.{◌≡◌, ℕ, List, [], Some, not, ◌==◌}
use Rattle.std.specs.List.{AllByRecursion, list_any}
use Rattle.rep_schema.specs.declared.schema.Schema.{Schema}
use Rattle.rep_schema.specs.declared.change.Change.{Change}
use Rattle.rep_schema.specs.Tables.{Cells, columns_of, key_of, RowFits}
use Rattle.rep_schema.specs.Shape.{HasShape}
use Rattle.rep_schema.specs.Groups.{differing_groups}
use Rattle.rep_schema.specs.Changes.{ChangeFits}
use Rattle.rep_calls.specs.declared.call.Part.{Part}
use Rattle.conflict_detect.specs.declared.detection.Found.TheVariants.{Matches}
use Rattle.conflict_detect.specs.Fits.{UpdateFits, CallFits}
use Rattle.conflict_detect.specs.Differing.{is_matched, unmatched_groups, found_of}
use Rattle.conflict_detect.specs.ChangeCalls.{parts_between, call_of, with_parts}

-- two rows of a table with one key
pub record AreOneRow (schema : Schema) (table : ℕ) (a b : Cells) : Type 0 where
  pub first : RowFits (columns_of schema table) a
  pub second : RowFits (columns_of schema table) b
  pub same_key : key_of (columns_of schema table) a ≡ key_of (columns_of schema table) b

-- the call of a changed row fits
abbrev pub CallsOfChangesFit : Type 0
CallsOfChangesFit = (schema : Schema) (change : Change) → HasShape schema → ChangeFits schema change → CallFits schema (call_of schema change)

-- the new values of its parts lead from the row before to the row after
abbrev pub PartsLeadToTheRowAfter : Type 0
PartsLeadToTheRowAfter = (schema : Schema) (table : ℕ) (before after : Cells) → HasShape schema → AreOneRow schema table before after
    → with_parts schema table (parts_between schema table before after) before ≡ after

-- the row before matches it
abbrev pub RowsBeforeMatch : Type 0
RowsBeforeMatch = (schema : Schema) (change : Change) (before : Cells) → change.before ≡ Some before → found_of schema (call_of schema change) (Some before) ≡ Matches

-- two rows with one key that differ in no group are the same: a delete that matches has the whole row
abbrev pub RowsDifferInSomeGroup : Type 0
RowsDifferInSomeGroup = (schema : Schema) (table : ℕ) (a b : Cells) → HasShape schema → AreOneRow schema table a b → differing_groups schema table a b ≡ [] → a ≡ b

-- of the parts of an update that fits, the groups found are those of the parts whose old values the row hasn't
abbrev pub FoundGroupsTell : Type 0
FoundGroupsTell = (schema : Schema) (table : ℕ) (key row : Cells) (parts : List Part) → UpdateFits schema table key parts
    → AllByRecursion (λ part. list_any (λ g. g == part.group) (unmatched_groups schema table row parts) ≡ not (is_matched schema table row part)) parts
