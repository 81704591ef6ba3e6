-- A check comes into the table of a name.
use Rattle.std.proofs.Common.{◌++◌, [], ◌∷◌}
use Rattle.std.proofs.lemmas.Result.{on_ok_weaker}
use Rattle.rep_values.specs.Literal.{value_of_literal}
use Rattle.rep_schema.specs.declared.schema.TableEntry.{TableEntry}
use Rattle.rep_declare.specs.Additions.{with_checks, column_number}
use Rattle.rep_declare.proofs.ChangedTables.{table_changed, no_table_changed}
use Rattle.rep_declare.proofs.additions.add_check.Goals as goal

pub returns-in-Some-clause-ok : goal.returns-in-Some-clause-ok
returns-in-Some-clause-ok c =
    let change : TableEntry → TableEntry = λ entry. with_checks (entry.checks ++ record { name = c.args.check; column = column_number entry.columns c.args.column.now; rel = c.args.rel; value = value_of_literal c.args.value.now } ∷ []) entry in
    on_ok_weaker c.push_check.result
    (table_changed c.args.schema.now c.args.table.now change c.table_place.result c.as_slice.result.now c.as_slice.ensures c.table_place.ensures c.in-Some.place c.at_mut.result.now c.push_check.new.table c.in-Some.is c.at_mut.ensures.value)
    c.push_check.ensures.ok

pub returns-in-None-clause-ok : goal.returns-in-None-clause-ok
returns-in-None-clause-ok c =
    let change : TableEntry → TableEntry = λ entry. with_checks (entry.checks ++ record { name = c.args.check; column = column_number entry.columns c.args.column.now; rel = c.args.rel; value = value_of_literal c.args.value.now } ∷ []) entry in
    no_table_changed c.args.schema.now c.args.table.now change c.table_place.result c.as_slice.result.now c.as_slice.ensures c.table_place.ensures c.in-None.is
