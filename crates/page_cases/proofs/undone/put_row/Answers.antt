use Rattle.std.proofs.Common.{rules}
use Rattle.rep_schema.specs.Tables.{IsKeyed, RowFits, IsUniqueRow, columns_of, rows_of}
use Rattle.rep_schema.proofs.Leading.{IsChange-put}
use Rattle.page_cases.proofs.undone.put_row.Goals as goal

pub returns-clause-is : goal.returns-clause-is
returns-clause-is g c =
    let schema = g.R.RowStore.schema c.args.store.now in
    let tables = g.R.RowStore.tables c.args.store.now in
    let keyed : IsKeyed (columns_of schema 0) = search rules in
    let fits : RowFits (columns_of schema 0) c.args.row = search rules in
    let unique : IsUniqueRow schema 0 c.args.row (rows_of tables 0) = search rules in
    rw c.in_ok-kept.ensures (IsChange-put schema 0 tables c.requires.table keyed c.args.row c.put-before.result fits unique c.put-before.ensures.replaced)
