-- Of the rows from the place on those that pass the tests are taken away.
use Rattle.std.proofs.Common.{◌≡◌, ◌++◌, ◌≤◌, length, set, take, drop}
use Rattle.rep_schema.specs.Tables.{rows_of}
use Rattle.proc_state.specs.Actions.{after_drop}
use Rattle.proc_calls.specs.Trails.{KeepsTrail}
use Rattle.proc_calls.proofs.changing.take_each.Given as goal

abbrev pub invariant-loop-place : goal.invariant-loop-place
invariant-loop-place g l =
    let first = g.R.RowStore.tables l.fn.store in
    let rows = rows_of first l.table in
    record {
      within : l.place ≤ length rows;
      tables : g.R.RowStore.tables l.store ≡ set first l.table (take l.place rows ++ after_drop l.tests (drop l.place rows));
      trail : KeepsTrail (record { schema = g.R.RowStore.schema l.fn.store; tables = first; spare = g.R.RowStore.spare l.fn.store })
          (record { schema = g.R.RowStore.schema l.store; tables = g.R.RowStore.tables l.store; spare = g.R.RowStore.spare l.store }) l.fn.trail.items l.trail.items;
    }
