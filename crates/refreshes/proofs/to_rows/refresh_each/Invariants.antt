-- The tables up to the place have their rows.
use Rattle.std.proofs.Common.{◌≡◌, ◌+◌, ◌≤◌, drop, length, map}
use Rattle.std.specs.Prelude.{sum, vec_len, vec_capacity}
use Rattle.rep_schema.specs.Putting.{StoreState}
use Rattle.site_state.specs.Refreshes.{with_tables, row_count}
use Rattle.refreshes.specs.Done.{HaveDone}
use Rattle.refreshes.proofs.Left.{RowsLeft}
use Rattle.refreshes.proofs.to_rows.refresh_each.Given as goal

-- with the rows that are left the tables are what they are to be, and the count what it is to be
abbrev pub invariant-loop-given : goal.invariant-loop-given
invariant-loop-given g l =
    let was : StoreState = record { schema = g.R.RowStore.schema l.fn.store; tables = g.R.RowStore.tables l.fn.store; spare = g.R.RowStore.spare l.fn.store } in
    let now : StoreState = record { schema = g.R.RowStore.schema l.store; tables = g.R.RowStore.tables l.store; spare = g.R.RowStore.spare l.store } in
    let ahead = drop l.given-index l.rows in
    record {
      snapshots : l.notes.snapshots ≡ l.fn.notes.snapshots;
      logs : l.notes.logs ≡ l.fn.notes.logs;
      schema : now.schema ≡ was.schema;
      done : HaveDone l.done.items was.tables now;
      left : RowsLeft l.done.items ahead;
      tables : with_tables ahead now.tables ≡ with_tables l.rows was.tables;
      keys : l.count.keys ≡ 0;
      rows : l.count.rows + sum (map row_count ahead) ≡ sum (map row_count l.rows);
      capacity : vec_capacity l.done ≡ vec_capacity l.fn.done;
      place : vec_len l.done + length ahead ≤ vec_capacity l.fn.done;
    }
