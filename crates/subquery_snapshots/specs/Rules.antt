-- Which rows a rule picks, which of them wait for a parent, and which are up to date.
use Rattle.std.specs.Prelude.{ℕ, ◌<◌, Bool, false, List, ◌++◌, map, filter, length}
use Rattle.rep_schema.specs.declared.schema.Schema.{Schema}
use Rattle.rep_schema.specs.declared.schema.Column.{Column}
use Rattle.rep_schema.specs.Tables.{Cells, Rows, columns_of, key_of, rows_of, IsKeyed}
use Rattle.snapshot_query.specs.declared.parent.Parent.{Parent}
use Rattle.snapshot_query.specs.Queries.{matches}
use Rattle.snapshot_query.specs.Parents.{parent_key, has_parent}
use Rattle.refreshes.specs.Showing.{has_key, ShowsOthers}
use Rattle.subquery_snapshots.specs.declared.rule.Rule.{Rule}
use Rattle.subquery_snapshots.specs.declared.rule.Rule.TheVariants as rules

-- a rule picks a row of its table in these tables
abbrev pub rule_picks : Schema → List Rows → Rule → Cells → Bool
rule_picks schema tables (rules.Whole query) row = matches query.now row
rule_picks schema tables (rules.Parent parent) row = has_parent schema tables parent.now row

-- the rows of a table that a rule picks, in their order
abbrev pub rows_picked : Schema → List Rows → ℕ → Rule → Rows
rows_picked schema tables table rule = filter (rule_picks schema tables rule) (rows_of tables table)

-- a table of a schema, with 1 to 4 key columns
pub record IsKeyedTable (schema : Schema) (table : ℕ) : Type 0 where
  pub within : table < length schema.tables
  pub keyed : IsKeyed (columns_of schema table)

-- the table in which a rule looks for parents is a schema's
abbrev pub IsRuleWithin : Schema → Rule → Type 0
IsRuleWithin schema (rules.Whole query) = Unit {0}
IsRuleWithin schema (rules.Parent parent) = IsKeyedTable schema parent.now.table

-- the rows whose parent has one of these keys
abbrev pub rows_of_parents : Parent → List Cells → Rows → Rows
rows_of_parents parent keys rows = filter (λ row. has_key (parent_key parent row) keys) rows

-- a row waits for a parent among these, where the rule asks for one
abbrev pub waits : Rule → List Cells → Cells → Bool
waits (rules.Whole query) parents row = false
waits (rules.Parent parent) parents row = has_key (parent_key parent.now row) parents

-- the rows that wait
abbrev pub waiting_rows : Rule → List Cells → Rows → Rows
waiting_rows rule parents rows = filter (waits rule parents) rows

-- their keys
abbrev pub waiting_keys : List Column → Rule → List Cells → Rows → List Cells
waiting_keys columns rule parents rows = map (key_of columns) (waiting_rows rule parents rows)

-- under each up-to-date key, which is none of these and not that of a row that waits, rows have what the rule shows of the table's row
abbrev pub ShowsUpToDate : Schema → List Rows → ℕ → Rule → List Cells → List Cells → Rows → Type 0
ShowsUpToDate schema tables table rule keys parents rows =
    ShowsOthers (columns_of schema table) (rule_picks schema tables rule) (keys ++ waiting_keys (columns_of schema table) rule parents (rows_of tables table)) (rows_of tables table) rows
