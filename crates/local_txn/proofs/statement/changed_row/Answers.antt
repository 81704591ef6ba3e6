-- The row that an update makes of another one.
use Rattle.std.proofs.Common.{◌≡◌, sym, ◌∙◌}
use Rattle.std.specs.Prelude.{Some}
use Rattle.rep_schema.specs.Tables.{columns_of}
use Rattle.rep_schema.proofs.RowFit.{length-fits}
use Rattle.txn_effects.specs.ByColumn.{row_by, row_where_in_range}
use Rattle.local_txn.proofs.SetWalk.{length-row_by}
use Rattle.txn_effects.proofs.KindRows.{are_of-RowFits}
use Rattle.local_txn.proofs.StatementSteps.{set_row-Some}
use Rattle.local_txn.proofs.statement.changed_row.Goals as goal

pub set_row-requires : goal.set_row-requires
set_row-requires c = rw c.in_ok-copy.ensures (are_of-RowFits (columns_of c.args.schema.now c.args.table) c.args.before.now c.requires.fits).1

pub updated-requires-clause-before : goal.updated-requires-clause-before
updated-requires-clause-before c = rw c.values-2.ensures.value (length-fits (columns_of c.args.schema.now c.args.table) c.args.before.now c.requires.fits)

pub updated-requires-clause-long : goal.updated-requires-clause-long
updated-requires-clause-long c =
    let set : row_where_in_range (row_by c.args.sets.now c.args.before.now) ≡ Some c.in-Some-set_row.row = sym (rw c.in_ok-copy.ensures at c.set_row.ensures) ∙ c.in-Some-set_row.is in
    let row = set_row-Some (row_by c.args.sets.now c.args.before.now) c.in-Some-set_row.row set in
    rw row.0 (length-fits (columns_of c.args.schema.now c.args.table) c.args.before.now c.requires.fits ∙ sym (length-row_by c.args.sets.now c.args.before.now))
