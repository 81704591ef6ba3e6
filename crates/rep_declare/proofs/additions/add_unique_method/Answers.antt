-- A method comes into a constraint of the table of a name.
use Rattle.std.proofs.lemmas.Result.{on_ok_weaker}
use Rattle.rep_schema.specs.declared.schema.TableEntry.{TableEntry}
use Rattle.rep_declare.specs.Additions.{with_method_on, unique_method_of}
use Rattle.rep_declare.proofs.ChangedTables.{table_changed, no_table_changed}
use Rattle.rep_declare.proofs.additions.add_unique_method.Goals as goal

pub returns-in-Some-clause-ok : goal.returns-in-Some-clause-ok
returns-in-Some-clause-ok c =
    let change : TableEntry → TableEntry = λ entry. with_method_on c.args.constraint.now (unique_method_of entry.columns c.args.words.now) entry in
    on_ok_weaker c.push_unique_method.result
    (table_changed c.args.schema.now c.args.table.now change c.table_place.result c.as_slice.result.now c.as_slice.ensures c.table_place.ensures c.in-Some.place c.at_mut.result.now c.push_unique_method.new.table c.in-Some.is c.at_mut.ensures.value)
    c.push_unique_method.ensures.ok

pub returns-in-None-clause-ok : goal.returns-in-None-clause-ok
returns-in-None-clause-ok c =
    let change : TableEntry → TableEntry = λ entry. with_method_on c.args.constraint.now (unique_method_of entry.columns c.args.words.now) entry in
    no_table_changed c.args.schema.now c.args.table.now change c.table_place.result c.as_slice.result.now c.as_slice.ensures c.table_place.ensures c.in-None.is
