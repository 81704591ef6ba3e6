-- The rows that keys and parents make.
use Rattle.std.proofs.Common.{◌++◌, ◌∙◌, arith}
use Rattle.rep_schema.specs.Tables.{columns_of, rows_of}
use Rattle.rep_schema.proofs.FilteredRows.{IsTable-filter}
use Rattle.refreshes.specs.Showing.{ShowsOthers}
use Rattle.subquery_snapshots.specs.Rules.{rule_picks, waiting_keys}
use Rattle.subquery_snapshots.proofs.Renewing.{renewed_all}
use Rattle.subquery_snapshots.proofs.fast.rows_fast.Goals as goal

pub renew_keys-requires-clause-rising : goal.renew_keys-requires-clause-rising
renew_keys-requires-clause-rising g c = rw c.in_ok-rows.ensures c.requires.older

pub renew_waiting-requires-clause-master : goal.renew_waiting-requires-clause-master
renew_waiting-requires-clause-master g c = rw c.renew_keys.ensures.tables c.requires.master

pub renew_waiting-requires-clause-rising : goal.renew_waiting-requires-clause-rising
renew_waiting-requires-clause-rising g c = c.in_ok-renew_keys.ensures.renewed.rising

pub returns-in_err-renew_waiting-clause-lookups : goal.returns-in_err-renew_waiting-clause-lookups
returns-in_err-renew_waiting-clause-lookups g c = omega (arith, c.renew_keys.ensures.lookups, rw c.renew_keys.ensures.tables at c.renew_waiting.ensures.lookups)

pub returns-clause-lookups : goal.returns-clause-lookups
returns-clause-lookups g c = omega (arith, c.renew_keys.ensures.lookups, rw c.renew_keys.ensures.tables at c.renew_waiting.ensures.lookups)

pub returns-clause-rows : goal.returns-clause-rows
returns-clause-rows g c =
    let schema = c.args.schema.now in
    let tables = g.M.MasterView.tables c.args.master.now in
    let columns = columns_of schema c.args.table in
    let rows = rows_of tables c.args.table in
    let test = rule_picks schema tables c.args.rule.now in
    let waiting = waiting_keys columns c.args.rule.now c.args.parents.now rows in
    let others : ShowsOthers columns test (c.args.keys.now ++ waiting) rows c.in_ok-rows.rows.items = rw c.in_ok-rows.ensures c.requires.up_to_date in
    c.from_vec.ensures
    ∙ renewed_all columns test rows c.args.keys.now waiting c.in_ok-rows.rows.items c.renew_keys.new.rows.items c.renew_waiting.new.rows.items
    (c.requires.master.each c.args.table c.requires.table.within).rising others c.in_ok-renew_keys.ensures.renewed (rw c.renew_keys.ensures.tables at c.in_ok-renew_waiting.ensures.renewed)

pub returns-clause-table : goal.returns-clause-table
returns-clause-table g c =
    let schema = c.args.schema.now in
    let tables = g.M.MasterView.tables c.args.master.now in
    let columns = columns_of schema c.args.table in
    let rows = rows_of tables c.args.table in
    let test = rule_picks schema tables c.args.rule.now in
    let waiting = waiting_keys columns c.args.rule.now c.args.parents.now rows in
    let is = c.requires.master.each c.args.table c.requires.table.within in
    let others : ShowsOthers columns test (c.args.keys.now ++ waiting) rows c.in_ok-rows.rows.items = rw c.in_ok-rows.ensures c.requires.up_to_date in
    let all = c.from_vec.ensures
    ∙ renewed_all columns test rows c.args.keys.now waiting c.in_ok-rows.rows.items c.renew_keys.new.rows.items c.renew_waiting.new.rows.items
    is.rising others c.in_ok-renew_keys.ensures.renewed (rw c.renew_keys.ensures.tables at c.in_ok-renew_waiting.ensures.renewed) in
    rw all (IsTable-filter schema c.args.table test rows is)
