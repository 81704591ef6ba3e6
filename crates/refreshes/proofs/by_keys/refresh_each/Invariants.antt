-- The snapshots up to the place have their rows.
use Rattle.std.proofs.Common.{◌≡◌, ◌+◌, ◌≤◌, drop, length, map}
use Rattle.std.specs.Prelude.{sum, vec_len, vec_capacity}
use Rattle.rep_schema.specs.Putting.{StoreState}
use Rattle.site_state.specs.Refreshes.{rows_shown, with_tables, row_count}
use Rattle.refreshes.specs.Refreshing.{pending_count}
use Rattle.refreshes.specs.Done.{HaveDone}
use Rattle.refreshes.proofs.Left.{SnapshotsLeft}
use Rattle.refreshes.proofs.by_keys.refresh_each.Given as goal

-- with the rows of those that are left the tables are what they are to be, and the counts what they are to be
abbrev pub invariant-loop-place : goal.invariant-loop-place
invariant-loop-place g l =
    let was : StoreState = record { schema = g.R.RowStore.schema l.fn.store; tables = g.R.RowStore.tables l.fn.store; spare = g.R.RowStore.spare l.fn.store } in
    let now : StoreState = record { schema = g.R.RowStore.schema l.store; tables = g.R.RowStore.tables l.store; spare = g.R.RowStore.spare l.store } in
    let master = g.M.MasterView.tables l.fn.master in
    let all = l.fn.notes.snapshots in
    let ahead = drop l.place all in
    record {
      snapshots : l.notes.snapshots ≡ all;
      logs : l.notes.logs ≡ l.fn.notes.logs;
      schema : now.schema ≡ was.schema;
      done : HaveDone l.done.items was.tables now;
      left : SnapshotsLeft was.schema l.logs.logs master l.done.items now.tables ahead;
      tables : with_tables (rows_shown master ahead) now.tables ≡ with_tables (rows_shown master all) was.tables;
      keys : l.count.keys + pending_count l.logs.logs ahead ≡ pending_count l.logs.logs all;
      rows : l.count.rows + sum (map row_count (rows_shown master ahead)) ≡ sum (map row_count (rows_shown master all));
      capacity : vec_capacity l.done ≡ vec_capacity l.fn.done;
      place : vec_len l.done + length ahead ≤ vec_capacity l.fn.done;
      master_schema : g.M.MasterView.schema l.master ≡ g.M.MasterView.schema l.fn.master;
      master_tables : g.M.MasterView.tables l.master ≡ master;
      rise : g.M.MasterView.count l.fn.master ≤ g.M.MasterView.count l.master;
      lookups : g.M.MasterView.count l.master ≤ g.M.MasterView.count l.fn.master + l.count.keys;
    }
