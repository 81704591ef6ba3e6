-- Which rows a snapshot shows: those that its query picks, or with a parent those whose parent passes its tests.
use Rattle.std.specs.Prelude.{ℕ, Bool, false, List, filter, Option, Some, None}
use Rattle.rep_schema.specs.declared.schema.Schema.{Schema}
use Rattle.rep_schema.specs.Tables.{Cells, Rows, columns_of, find_row, rows_of}
use Rattle.rep_schema.specs.Groups.{values_at}
use Rattle.snapshot_query.specs.declared.query.Query.{Query}
use Rattle.snapshot_query.specs.declared.parent.Parent.{Parent}
use Rattle.snapshot_query.specs.declared.snapshot.Snapshot.{Snapshot}
use Rattle.snapshot_query.specs.Queries.{matches}

-- the key of a row's parent: the row's values in the parent's columns, in that order
abbrev pub parent_key : Parent → Cells → Cells
parent_key parent row = values_at parent.columns row

-- a row is found, and passes every test
abbrev pub found_matches : Query → Option Cells → Bool
found_matches tests None = false
found_matches tests (Some row) = matches tests row

-- the parent of a row is there, and passes every test
abbrev pub has_parent : Schema → List Rows → Parent → Cells → Bool
has_parent schema tables parent row = found_matches parent.tests (find_row (columns_of schema parent.table) (parent_key parent row) (rows_of tables parent.table))

abbrev pub picks_by : Schema → List Rows → Query → Option Parent → Cells → Bool
picks_by schema tables query None row = matches query row
picks_by schema tables query (Some parent) row = has_parent schema tables parent row

-- a snapshot shows a row of its table in these tables: by its parent, or else by its query
abbrev pub picks : Schema → List Rows → Snapshot → Cells → Bool
picks schema tables snapshot row = picks_by schema tables snapshot.query snapshot.parent row

-- the rows of its table in these tables that a snapshot shows, in their order
abbrev pub rule_rows : Schema → List Rows → Snapshot → Rows
rule_rows schema tables snapshot = filter (picks schema tables snapshot) (rows_of tables snapshot.table)
