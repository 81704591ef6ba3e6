-- The very same row.
use Rattle.std.proofs.Common.{◌≡◌, Some, sym}
use Rattle.std.specs.Bool.{one_answer}
use Rattle.rep_schema.specs.Tables.{columns_of, key_of, find_row, rows_of}
use Rattle.rep_schema.proofs.ValuesAt.{are_same-Decides}
use Rattle.rep_schema.proofs.putting.is_there.Goals as goal

pub returns-in-Some : goal.returns-in-Some
returns-in-Some g c =
    let columns = columns_of (g.R.RowStore.schema c.args.store.now) c.args.table in
    let own : c.key_in.result ≡ key_of columns c.args.row.now = rw c.schema.ensures.value at c.key_in.ensures in
    let found : find_row columns (key_of columns c.args.row.now) (rows_of (g.R.RowStore.tables c.args.store.now) c.args.table) ≡ Some c.in-Some.found.now = rw (← own) (sym c.in-Some.ensures) in
    let same = rw (c.values.ensures.value, c.values-in-Some.ensures.value) at c.same_values.ensures in
    rw found (one_answer _ _ same (are_same-Decides c.in-Some.found.now c.args.row.now))
