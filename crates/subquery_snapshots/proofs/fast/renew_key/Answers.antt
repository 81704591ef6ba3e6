-- Making rows anew under one key.
use Rattle.rep_schema.specs.Tables.{columns_of, rows_of}
use Rattle.subquery_snapshots.specs.Rules.{rule_picks}
use Rattle.subquery_snapshots.proofs.Renewing.{shown, own-shown, renews_wanted}
use Rattle.subquery_snapshots.proofs.fast.renew_key.Goals as goal

pub shown_at-requires-clause-table : goal.shown_at-requires-clause-table
shown_at-requires-clause-table g c = rw c.requires.schema c.requires.table

pub shown_at-requires-clause-rule : goal.shown_at-requires-clause-rule
shown_at-requires-clause-rule g c = rw c.requires.schema c.requires.rule

pub shown_at-requires-clause-master : goal.shown_at-requires-clause-master
shown_at-requires-clause-master g c = rw c.requires.schema c.requires.master

pub set_row-requires-clause-rising : goal.set_row-requires-clause-rising
set_row-requires-clause-rising g c = rw c.columns_of.ensures c.requires.rising

-- what is shown under the key has it
pub set_row-requires-clause-own : goal.set_row-requires-clause-own
set_row-requires-clause-own g c =
    let schema = c.args.schema.now in
    let tables = g.M.MasterView.tables c.args.master.now in
    let row = rw c.requires.schema at c.in_ok-row.ensures.row in
    rw (c.columns_of.ensures, c.values.ensures.value, row) (own-shown (columns_of schema c.args.table) (rule_picks schema tables c.args.rule.now) (rows_of tables c.args.table) c.args.key.now)

pub returns-clause-renewed : goal.returns-clause-renewed
returns-clause-renewed g c =
    let schema = c.args.schema.now in
    let tables = g.M.MasterView.tables c.args.master.now in
    let columns = columns_of schema c.args.table in
    let row = rw c.requires.schema at c.in_ok-row.ensures.row in
    let set = rw (c.columns_of.ensures, c.values.ensures.value) at c.in_ok-set_row.ensures in
    renews_wanted columns (shown columns (rule_picks schema tables c.args.rule.now) (rows_of tables c.args.table)) c.args.key.now c.in_ok-row.row c.args.rows.now.items c.set_row.new.rows.items row set
