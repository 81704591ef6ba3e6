-- Testing a row constraint by constraint.
use Rattle.std.proofs.Common.{ℕ, ◌<◌}
use Rattle.rep_schema.specs.Tables.{columns_of, constraint_columns_of, rows_of, IsHeldElsewhere}
use Rattle.rep_schema.proofs.conditions.is_unique.Given as goal

-- none of the constraints so far is violated
abbrev pub invariant-loop-c : goal.invariant-loop-c
invariant-loop-c g l =
    let schema = g.R.RowStore.schema l.store in
    (k : ℕ) → k < l.c → ¬ IsHeldElsewhere (columns_of schema l.table) (constraint_columns_of schema l.table k) l.row (rows_of (g.R.RowStore.tables l.store) l.table)
