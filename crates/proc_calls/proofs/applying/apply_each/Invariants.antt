-- The calls before the place were made, and those that are left decide.
use Rattle.std.proofs.Common.{◌≡◌, ◌+◌, drop}
use Rattle.proc_calls.specs.Trails.{KeepsTrail}
use Rattle.proc_calls.specs.Carrying.{carried_calls_after}
use Rattle.proc_calls.proofs.applying.apply_each.Given as goal

abbrev pub invariant-loop-i : goal.invariant-loop-i
invariant-loop-i g l =
    let schema = g.R.RowStore.schema l.fn.store in
    let first = g.R.RowStore.tables l.fn.store in
    record {
      so_far : carried_calls_after schema l.procedures 1 l.calls first ≡ carried_calls_after schema l.procedures (l.i + 1) (drop l.i l.calls) (g.R.RowStore.tables l.store);
      trail : KeepsTrail (record { schema = schema; tables = first; spare = g.R.RowStore.spare l.fn.store })
          (record { schema = g.R.RowStore.schema l.store; tables = g.R.RowStore.tables l.store; spare = g.R.RowStore.spare l.store }) l.fn.trail.items l.trail.items;
    }
