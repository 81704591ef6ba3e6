use Rattle.std.proofs.Common.{sym, ◌∙◌, rules}
use Rattle.rep_schema.specs.Tables.{IsKeyed, columns_of}
use Rattle.rep_schema.proofs.Leading.{IsChange-take, made-take}
use Rattle.page_cases.proofs.undone.take_row.Goals as goal

pub returns-clause-is : goal.returns-clause-is
returns-clause-is g c =
    let schema = g.R.RowStore.schema c.args.store.now in
    let keyed : IsKeyed (columns_of schema 0) = search rules in
    IsChange-take schema 0 (g.R.RowStore.tables c.args.store.now) c.requires keyed c.args.key.now c.take-before.result c.take-before.ensures.taken

pub returns-clause-made : goal.returns-clause-made
returns-clause-made g c =
    let schema = g.R.RowStore.schema c.args.store.now in
    let keyed : IsKeyed (columns_of schema 0) = search rules in
    c.take-before.ensures.tables ∙ sym (made-take schema 0 (g.R.RowStore.tables c.args.store.now) c.requires keyed c.args.key.now c.take-before.result c.take-before.ensures.taken)
