-- Making rows anew parent by parent.
use Rattle.std.proofs.Common.{◌≡◌, ◌+◌, ◌*◌, ◌≤◌, map, drop, length}
use Rattle.rep_lists.specs.Rising.{IsRising}
use Rattle.rep_schema.specs.Tables.{columns_of, key_of, row_cmp, rows_of}
use Rattle.snapshot_query.specs.Parents.{has_parent}
use Rattle.subquery_snapshots.specs.Rules.{rows_of_parents}
use Rattle.subquery_snapshots.specs.Children.{child_count}
use Rattle.subquery_snapshots.proofs.Renewing.{shown, GoesOn}
use Rattle.subquery_snapshots.proofs.fast.renew_families.Given as goal

-- to make the children of the parents that are left anew leads to what making those of all anew leads to
abbrev pub invariant-loop-key : goal.invariant-loop-key
invariant-loop-key g l =
    let columns = columns_of l.schema l.table in
    let stored = g.M.MasterView.tables l.fn.master in
    let rows = rows_of stored l.table in
    let left = drop l.key-index l.keys in
    record {
      schema : g.M.MasterView.schema l.master ≡ g.M.MasterView.schema l.fn.master;
      tables : g.M.MasterView.tables l.master ≡ g.M.MasterView.tables l.fn.master;
      rising : IsRising (row_cmp columns) l.rows.items;
      renewed : GoesOn columns (shown columns (has_parent l.schema stored l.parent) rows) (map (key_of columns) (rows_of_parents l.parent left rows)) l.rows.items (map (key_of columns) (rows_of_parents l.parent l.keys rows)) l.fn.rows.items;
      rise : g.M.MasterView.count l.fn.master ≤ g.M.MasterView.count l.master;
      lookups : g.M.MasterView.count l.master + 2 * length left + child_count l.parent.columns left rows ≤ g.M.MasterView.count l.fn.master + 2 * length l.keys + child_count l.parent.columns l.keys rows;
    }
