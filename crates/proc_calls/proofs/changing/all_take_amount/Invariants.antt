-- Each row so far may have the amount added.
use Rattle.std.proofs.Common.{◌≡◌, drop}
use Rattle.std.specs.List.{list_all}
use Rattle.rep_schema.specs.Tables.{rows_of}
use Rattle.proc_state.specs.Actions.{can_rise_where}
use Rattle.proc_calls.proofs.changing.all_take_amount.Given as goal

abbrev pub invariant-loop-place : goal.invariant-loop-place
invariant-loop-place g l =
    let rows = rows_of (g.R.RowStore.tables l.store) l.table in
    let test = can_rise_where l.tests l.column l.amount in
    record {
      so_far : list_all test rows ≡ list_all test (drop l.place rows);
    }
