use Rattle.std.proofs.Common.{arith}
use Rattle.rep_schema.specs.Tables.{columns_of, rows_of}
use Rattle.subquery_snapshots.specs.Rules.{rule_picks, IsKeyedTable}
use Rattle.subquery_snapshots.proofs.Renewing.{shown, renews_none}
use Rattle.subquery_snapshots.proofs.Families.{none_waits, waiting_counted}
use Rattle.subquery_snapshots.proofs.fast.renew_waiting.Goals as goal

pub renew_families-requires-clause-parent : goal.renew_families-requires-clause-parent
renew_families-requires-clause-parent g c = let parent : IsKeyedTable c.args.schema.now c.in-Parent.parent.now.table = rw c.in-Parent.is at c.requires.rule in parent.within

-- no row waits
pub returns-in-Whole-clause-renewed : goal.returns-in-Whole-clause-renewed
returns-in-Whole-clause-renewed g c =
    let schema = c.args.schema.now in
    let tables = g.M.MasterView.tables c.args.master.now in
    let columns = columns_of schema c.args.table in
    let rows = rows_of tables c.args.table in
    rw (none_waits c.args.rule.now _ c.in-Whole.is c.args.parents.now rows) (renews_none columns (shown columns (rule_picks schema tables c.args.rule.now) rows) c.args.rows.now.items c.requires.rising)

pub returns-in-Parent-clause-renewed : goal.returns-in-Parent-clause-renewed
returns-in-Parent-clause-renewed g c = rw c.in-Parent.is c.renew_families.ensures.renewed

-- distinct parents have no child in common
pub returns-in-Parent-clause-lookups : goal.returns-in-Parent-clause-lookups
returns-in-Parent-clause-lookups g c =
    let rows = rows_of (g.M.MasterView.tables c.args.master.now) c.args.table in
    omega (arith, c.renew_families.ensures.lookups, waiting_counted c.args.rule.now c.in-Parent.parent c.in-Parent.is c.args.parents.now rows c.requires.apart)
