use Rattle.std.proofs.Common.{◌≡◌, false, sym, ◌∙◌}
use Rattle.rep_schema.specs.Tables.{Cells, columns_of, find_row, rows_of}
use Rattle.rep_schema.proofs.FilteredRows.{find_row-filter, IsTable-filter}
use Rattle.snapshot_query.specs.Queries.{matches, query_rows}
use Rattle.refreshes.specs.Showing.{has_key}
use Rattle.refreshes.specs.Planned.{gone_keys, rows_left}
use Rattle.refreshes.proofs.ChangesMade.{length-replaced}
use Rattle.refreshes.proofs.AsRefreshed.{can_come, refreshes}
use Rattle.refreshes.proofs.refresh.refresh_fast.Goals as goal

pub carry_out-requires-clause-can : goal.carry_out-requires-clause-can
carry_out-requires-clause-can g c κs within =
    let schema = g.R.RowStore.schema c.args.store.now in
    let snap = c.args.snap.now in
    let tables = g.R.RowStore.tables c.args.store.now in
    let master = rows_of (g.M.MasterView.tables c.args.master.now) snap.table in
    let others : (key : Cells) → has_key key c.args.keys.now ≡ false → find_row (columns_of schema snap.table) key (rows_of tables snap.table) ≡ find_row (columns_of schema snap.table) key (query_rows snap.query master) =
    λ key none. c.requires.others.shows key none ∙ sym (find_row-filter (columns_of schema snap.table) (matches snap.query) key master c.requires.master.rising) in
    let can = can_come schema snap.table tables (query_rows snap.query master) c.requires.table c.requires.keyed c.holds_tables.ensures (IsTable-filter schema snap.table (matches snap.query) master c.requires.master) c.args.keys.now others in
    rw (c.in_ok-plan.ensures.come, c.in_ok-plan.ensures.gone) can

pub returns-clause-refreshed : goal.returns-clause-refreshed
returns-clause-refreshed g c =
    let schema = g.R.RowStore.schema c.args.store.now in
    let snap = c.args.snap.now in
    let tables = g.R.RowStore.tables c.args.store.now in
    let master = rows_of (g.M.MasterView.tables c.args.master.now) snap.table in
    let others : (key : Cells) → has_key key c.args.keys.now ≡ false → find_row (columns_of schema snap.table) key (rows_of tables snap.table) ≡ find_row (columns_of schema snap.table) key (query_rows snap.query master) =
    λ key none. c.requires.others.shows key none ∙ sym (find_row-filter (columns_of schema snap.table) (matches snap.query) key master c.requires.master.rising) in
    let gone = c.in_ok-plan.ensures.gone in
    let come = c.in_ok-plan.ensures.come in
    refreshes schema snap.table tables (query_rows snap.query master) c.requires.table c.requires.keyed c.holds_tables.ensures (IsTable-filter schema snap.table (matches snap.query) master c.requires.master) c.args.keys.now others
    (g.R.RowStore.spare c.args.store.now)
    (record { schema = g.R.RowStore.schema c.carry_out.new.store; tables = g.R.RowStore.tables c.carry_out.new.store; spare = g.R.RowStore.spare c.carry_out.new.store })
    c.in_ok-changes.changes c.carry_out.ensures.schema (rw (come, gone) at c.in_ok-changes.ensures.tables) (rw (come, gone) at c.in_ok-changes.ensures.changes) (rw gone at c.in_ok-changes.ensures.room) c.carry_out.ensures.others

pub returns-clause-few : goal.returns-clause-few
returns-clause-few g c =
    let schema = g.R.RowStore.schema c.args.store.now in
    let snap = c.args.snap.now in
    let columns = columns_of schema snap.table in
    let rows = rows_of (g.R.RowStore.tables c.args.store.now) snap.table in
    let wanted = query_rows snap.query (rows_of (g.M.MasterView.tables c.args.master.now) snap.table) in
    rw (rw (c.in_ok-plan.ensures.come, c.in_ok-plan.ensures.gone) at c.in_ok-changes.ensures.changes)
    (length-replaced columns rows wanted snap.table c.args.keys.now (rows_left columns (gone_keys columns rows wanted c.args.keys.now) rows))
