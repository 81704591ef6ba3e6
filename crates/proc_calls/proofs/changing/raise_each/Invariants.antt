-- The rows before the place are raised.
use Rattle.std.proofs.Common.{◌≡◌, ◌++◌, map, set, take, drop}
use Rattle.rep_schema.specs.Tables.{rows_of}
use Rattle.proc_state.specs.Actions.{row_raised_where}
use Rattle.proc_calls.specs.Trails.{KeepsTrail}
use Rattle.proc_calls.proofs.changing.raise_each.Given as goal

abbrev pub invariant-loop-place : goal.invariant-loop-place
invariant-loop-place g l =
    let first = g.R.RowStore.tables l.fn.store in
    let rows = rows_of first l.table in
    record {
      tables : g.R.RowStore.tables l.store ≡ set first l.table (map (row_raised_where l.tests l.column l.amount) (take l.place rows) ++ drop l.place rows);
      trail : KeepsTrail (record { schema = g.R.RowStore.schema l.fn.store; tables = first; spare = g.R.RowStore.spare l.fn.store })
          (record { schema = g.R.RowStore.schema l.store; tables = g.R.RowStore.tables l.store; spare = g.R.RowStore.spare l.store }) l.fn.trail.items l.trail.items;
    }
