-- Making rows anew child by child.
use Rattle.std.proofs.Common.{◌≡◌, ◌+◌, ◌≤◌, map, length}
use Rattle.rep_lists.specs.Rising.{IsRising}
use Rattle.rep_schema.specs.Tables.{columns_of, key_of, row_cmp, rows_of}
use Rattle.snapshot_query.specs.Parents.{has_parent}
use Rattle.subquery_snapshots.specs.Children.{children, rows_above}
use Rattle.subquery_snapshots.proofs.Renewing.{shown, GoesOn}
use Rattle.subquery_snapshots.proofs.fast.renew_children.Given as goal

-- to make the children that are left anew leads to what making all anew leads to
abbrev pub invariant-children : goal.invariant-children
invariant-children g l =
    let columns = columns_of l.schema l.table in
    let stored = g.M.MasterView.tables l.fn.master in
    let all = children l.parent.columns l.key (rows_of stored l.table) in
    let left = rows_above columns l.above all in
    record {
      schema : g.M.MasterView.schema l.master ≡ g.M.MasterView.schema l.fn.master;
      tables : g.M.MasterView.tables l.master ≡ g.M.MasterView.tables l.fn.master;
      rising : IsRising (row_cmp columns) l.rows.items;
      renewed : GoesOn columns (shown columns (has_parent l.schema stored l.parent) (rows_of stored l.table)) (map (key_of columns) left) l.rows.items (map (key_of columns) all) l.fn.rows.items;
      rise : g.M.MasterView.count l.fn.master ≤ g.M.MasterView.count l.master;
      lookups : g.M.MasterView.count l.master + length left ≤ g.M.MasterView.count l.fn.master + 1 + length all;
    }

-- each that is made anew is no longer left
abbrev pub decreases-children : goal.decreases-children
decreases-children g l =
    let columns = columns_of l.schema l.table in
    length (rows_above columns l.above (children l.parent.columns l.key (rows_of (g.M.MasterView.tables l.fn.master) l.table)))
