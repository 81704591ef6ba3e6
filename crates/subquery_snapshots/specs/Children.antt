-- The children of a parent: the rows that have its key in some columns. Which of them stand above a key, and the first of these.
use Rattle.std.specs.Prelude.{ℕ, Bool, true, List, length, filter, find, sum_by, Option, Some, None}
use Rattle.std.specs.Ordering.{is_gt}
use Rattle.rep_schema.specs.declared.schema.Column.{Column}
use Rattle.rep_schema.specs.Tables.{Cells, Rows, row_beside}
use Rattle.rep_schema.specs.Groups.{values_at, are_same}

-- a row has these values in some columns, as a child has the key of its parent
abbrev pub is_child : List ℕ → Cells → Cells → Bool
is_child columns parent row = are_same (values_at columns row) parent

-- the children of a parent, in their order
abbrev pub children : List ℕ → Cells → Rows → Rows
children columns parent rows = filter (is_child columns parent) rows

-- how many children these parents have
abbrev pub child_count : List ℕ → List Cells → Rows → ℕ
child_count columns parents rows = sum_by (λ parent. length (children columns parent rows)) parents

-- a row stands above a key; where there is no key, each does
abbrev pub is_above : List Column → Option Cells → Cells → Bool
is_above columns None row = true
is_above columns (Some key) row = is_gt (row_beside columns key row)

-- the rows above a key
abbrev pub rows_above : List Column → Option Cells → Rows → Rows
rows_above columns above rows = filter (is_above columns above) rows

-- the first of them that is a child
abbrev pub child_above : List Column → List ℕ → Cells → Option Cells → Rows → Option Cells
child_above table_columns columns parent above rows = find (is_child columns parent) (rows_above table_columns above rows)
