use Rattle.rep_schema.specs.Tables.{columns_of, rows_of}
use Rattle.refreshes.specs.Planned.{all_keys}
use Rattle.refreshes.proofs.PlannedKeys.{none_else}
use Rattle.refreshes.proofs.AsRefreshed.{can_come, refreshes}
use Rattle.refreshes.proofs.refresh.refresh_complete.Goals as goal

pub carry_out-requires-clause-can : goal.carry_out-requires-clause-can
carry_out-requires-clause-can g c κs within =
    let schema = g.R.RowStore.schema c.args.store.now in
    let table = c.args.snap.now.table in
    let tables = g.R.RowStore.tables c.args.store.now in
    let keys = all_keys (columns_of schema table) (rows_of tables table) c.args.rows.now in
    let can = can_come schema table tables c.args.rows.now c.requires.table c.requires.keyed c.holds_tables.ensures c.requires.rows keys (none_else (columns_of schema table) (rows_of tables table) c.args.rows.now) in
    rw (c.in_ok-plan.ensures.come, c.in_ok-plan.ensures.gone) can

pub returns-clause-refreshed : goal.returns-clause-refreshed
returns-clause-refreshed g c =
    let schema = g.R.RowStore.schema c.args.store.now in
    let table = c.args.snap.now.table in
    let tables = g.R.RowStore.tables c.args.store.now in
    let keys = all_keys (columns_of schema table) (rows_of tables table) c.args.rows.now in
    let gone = c.in_ok-plan.ensures.gone in
    let come = c.in_ok-plan.ensures.come in
    refreshes schema table tables c.args.rows.now c.requires.table c.requires.keyed c.holds_tables.ensures c.requires.rows keys (none_else (columns_of schema table) (rows_of tables table) c.args.rows.now)
    (g.R.RowStore.spare c.args.store.now)
    (record { schema = g.R.RowStore.schema c.carry_out.new.store; tables = g.R.RowStore.tables c.carry_out.new.store; spare = g.R.RowStore.spare c.carry_out.new.store })
    c.in_ok-changes.changes c.carry_out.ensures.schema (rw (come, gone) at c.in_ok-changes.ensures.tables) (rw (come, gone) at c.in_ok-changes.ensures.changes) (rw gone at c.in_ok-changes.ensures.room) c.carry_out.ensures.others
