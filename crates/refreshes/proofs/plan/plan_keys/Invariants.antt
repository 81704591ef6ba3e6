-- Looking up key by key.
use Rattle.std.proofs.Common.{◌≡◌, ◌+◌, ◌≤◌, ◌++◌, drop, length}
use Rattle.rep_schema.specs.Tables.{columns_of, rows_of}
use Rattle.snapshot_query.specs.Queries.{query_rows}
use Rattle.refreshes.specs.Planned.{gone_keys, coming_rows}
use Rattle.refreshes.proofs.plan.plan_keys.Given as goal

-- what was planned, with what the keys that are left add to it, is what all keys come to
abbrev pub invariant-loop-key : goal.invariant-loop-key
invariant-loop-key g l =
    let columns = columns_of (g.R.RowStore.schema l.store) l.table in
    let rows = rows_of (g.R.RowStore.tables l.store) l.table in
    let wanted = query_rows l.query (rows_of (g.M.MasterView.tables l.fn.master) l.table) in
    let left = drop l.key-index l.keys in
    record {
      schema : g.M.MasterView.schema l.master ≡ g.M.MasterView.schema l.fn.master;
      tables : g.M.MasterView.tables l.master ≡ g.M.MasterView.tables l.fn.master;
      gone : l.plan.gone.items ++ gone_keys columns rows wanted left ≡ gone_keys columns rows wanted l.keys;
      come : l.plan.come.items ++ coming_rows columns rows wanted left ≡ coming_rows columns rows wanted l.keys;
      rise : g.M.MasterView.count l.fn.master ≤ g.M.MasterView.count l.master;
      lookups : g.M.MasterView.count l.master + length left ≤ g.M.MasterView.count l.fn.master + length l.keys;
    }
