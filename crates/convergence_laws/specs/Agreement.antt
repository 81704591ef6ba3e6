-- Masters that have applied the same calls have the same rows.
use Rattle.std.specs.Prelude.{◌≡◌, ℕ, true, List, [], ◌∷◌, ◌++◌, Some}
use Rattle.rep_values.specs.declared.name.SiteName.{SiteName}
use Rattle.rep_schema.specs.declared.schema.Schema.{Schema}
use Rattle.rep_schema.specs.Tables.{Cells, Rows, columns_of, find_row, rows_of, AreTables}
use Rattle.rep_schema.specs.Groups.{group_columns_of, values_at}
use Rattle.schema_rules.specs.declared.forms.Form.TheVariants as form
use Rattle.rep_calls.specs.declared.call.Call.{Call}
use Rattle.txn_effects.specs.Convergent.{is_convergent}
use Rattle.rep_laws.specs.Commuting.{IsSound}
use Rattle.site_state.specs.declared.entry.Entry.{Entry}
use Rattle.site_state.specs.Contents.{journal_content}
use Rattle.rep_laws.specs.GroupForms.{form_at}
use Rattle.convergence_laws.specs.Joins.{calls_applied, applied_parts, applied_inserts, first_row, candidates_of}
use Rattle.convergence_laws.specs.Collections.{IsReordered, TellApart}
use Rattle.convergence_laws.specs.Journals.{AreMade}

-- the calls that a journal applied, one after the other
abbrev pub all_applied : List Entry → List Call
all_applied [] = []
all_applied (e ∷ es) = all_applied es ++ calls_applied e

-- the latest values of each row tell apart: those of one stamp and level are the same
abbrev pub LatestTellApart : Schema → List Rows → List Entry → Type 0
LatestTellApart schema base journal = (table group stamp site : ℕ) (key first : Cells) → is_convergent schema table ≡ true → form_at schema table group ≡ Some (form.Latest stamp site)
    → first_row (find_row (columns_of schema table) key (rows_of base table)) (applied_inserts schema table key journal) ≡ Some first
    → TellApart schema (group_columns_of schema table group) (form.Latest stamp site) (candidates_of (values_at (group_columns_of schema table group) first) (applied_parts table key group journal))

-- two journals on the same base rows that applied the same calls, in whatever orders, lead to the same rows of convergent
-- tables, where the latest values tell apart
abbrev pub SameCallsGiveSameRows : Type 0
SameCallsGiveSameRows = (schema : Schema) (one other : SiteName) (base : List Rows) (journal reordered : List Entry) → IsSound schema → AreTables schema base
    → AreMade schema one base journal → AreMade schema other base reordered → IsReordered (all_applied journal) (all_applied reordered) → LatestTellApart schema base journal
    → (table : ℕ) → is_convergent schema table ≡ true
    → rows_of (journal_content schema one base journal).tables table ≡ rows_of (journal_content schema other base reordered).tables table
