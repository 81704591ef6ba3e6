-- The snapshot's own rows have what is up to date by its rule.
use Rattle.std.proofs.Common.{◌≡◌, ap, sym, ◌∙◌}
use Rattle.rep_schema.specs.Tables.{rows_of}
use Rattle.change_logs.specs.Noting.{pending_keys}
use Rattle.site_events.specs.Rules.{pending_parents}
use Rattle.world_commands.proofs.RuledRows.{up_to_date_so}
use Rattle.world_commands.proofs.ruled.rows_by_logs.Goals as goal

pub rows_fast-requires-clause-up_to_date : goal.rows_fast-requires-clause-up_to_date
rows_fast-requires-clause-up_to_date c =
    let s = c.args.snapshot.now.snapshot in
    let logs = c.args.logs.now.logs in
    let log = rw c.table-table.ensures at c.log.ensures in
    let keys : c.as_slice-2.result.now ≡ pending_keys logs s = c.as_slice-2.ensures ∙ c.in_ok-keys.ensures.keys logs (sym log) in
    let parents : c.as_slice-3.result.now ≡ pending_parents logs s = c.as_slice-3.ensures ∙ c.in_ok-parents.ensures in
    let older : c.as_slice.result.now ≡ rows_of c.args.own.now.tables s.table = c.as_slice.ensures ∙ c.in_ok-older.ensures ∙ ap (rows_of c.args.own.now.tables) c.table-table.ensures in
    rw (c.schema.ensures.value, c.of-view.ensures.store, c.table-table.ensures, keys, parents, older)
    (up_to_date_so c.args.own.now.schema c.args.master.now.tables s c.rule_of-rule.result logs (rows_of c.args.own.now.tables s.table) c.rule_of-rule.ensures c.requires.others)
