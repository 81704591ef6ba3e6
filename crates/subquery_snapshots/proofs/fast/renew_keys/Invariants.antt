-- Making rows anew key by key.
use Rattle.std.proofs.Common.{◌≡◌, ◌+◌, ◌*◌, ◌≤◌, drop, length}
use Rattle.rep_lists.specs.Rising.{IsRising}
use Rattle.rep_schema.specs.Tables.{columns_of, row_cmp, rows_of}
use Rattle.subquery_snapshots.specs.Rules.{rule_picks}
use Rattle.subquery_snapshots.proofs.Renewing.{shown, GoesOn}
use Rattle.subquery_snapshots.proofs.fast.renew_keys.Given as goal

-- to make the keys that are left anew leads to what making all anew leads to
abbrev pub invariant-loop-key : goal.invariant-loop-key
invariant-loop-key g l =
    let columns = columns_of l.schema l.table in
    let stored = g.M.MasterView.tables l.fn.master in
    let left = drop l.key-index l.keys in
    record {
      schema : g.M.MasterView.schema l.master ≡ g.M.MasterView.schema l.fn.master;
      tables : g.M.MasterView.tables l.master ≡ g.M.MasterView.tables l.fn.master;
      rising : IsRising (row_cmp columns) l.rows.items;
      renewed : GoesOn columns (shown columns (rule_picks l.schema stored l.rule) (rows_of stored l.table)) left l.rows.items l.keys l.fn.rows.items;
      rise : g.M.MasterView.count l.fn.master ≤ g.M.MasterView.count l.master;
      lookups : g.M.MasterView.count l.master + 2 * length left ≤ g.M.MasterView.count l.fn.master + 2 * length l.keys;
    }
