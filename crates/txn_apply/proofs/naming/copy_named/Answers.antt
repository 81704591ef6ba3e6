-- Copying the row that a call names.
use Rattle.std.proofs.Common.{sym, ◌∙◌}
use Rattle.txn_apply.proofs.NamedRows.{RowFits-found, IsUniqueRow-some, TakesNamed-none, TakesNamed-put}
use Rattle.txn_apply.proofs.naming.copy_named.Goals as goal

pub put-requires-clause-fits : goal.put-requires-clause-fits
put-requires-clause-fits g c =
    rw (c.in_ok-reserve.ensures.schema, c.requires.schema)
    (RowFits-found _ _ c.args.tables.now.tables c.holds_tables.ensures c.requires.some c.table_of-table.result (rw c.table_of-table.ensures c.requires.fits.table) c.key_named-key.result c.in-Some.row (sym c.in_ok-row.ensures ∙ c.in-Some.is))

pub put-requires-clause-unique : goal.put-requires-clause-unique
put-requires-clause-unique g c =
    rw (c.in_ok-reserve.ensures.schema, c.in_ok-reserve.ensures.tables, c.requires.schema)
    (IsUniqueRow-some _ _ c.args.tables.now.tables c.holds_tables.ensures c.requires.some c.table_of-table.result (rw c.table_of-table.ensures c.requires.fits.table) c.key_named-key.result c.in-Some.row (sym c.in_ok-row.ensures ∙ c.in-Some.is))

pub returns-in_ok-reserve-clause-ok : goal.returns-in_ok-reserve-clause-ok
returns-in_ok-reserve-clause-ok g c =
    let names = rw c.schema.ensures.value at c.key_named-key.ensures in
    rw (c.put.ensures.tables, c.in_ok-reserve.ensures.schema, c.in_ok-reserve.ensures.tables, c.requires.schema)
    (TakesNamed-put _ _ c.args.tables.now.tables c.holds_tables.ensures c.requires.some c.table_of-table.result (rw c.table_of-table.ensures c.requires.fits.table) c.key_named-key.result c.in-Some.row (sym c.in_ok-row.ensures ∙ c.in-Some.is)
    c.args.call.now c.table_of-table.ensures names)

pub returns-in_default-clause-ok : goal.returns-in_default-clause-ok
returns-in_default-clause-ok g c =
    let names = rw c.schema.ensures.value at c.key_named-key.ensures in
    let none = sym c.in_ok-row.ensures ∙ c.in_default.is in
    TakesNamed-none _ _ _ c.requires.some _ (rw (c.table_of-table.ensures, names) at none)
