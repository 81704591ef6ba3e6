-- A group comes into the table of a name.
use Rattle.std.proofs.Common.{◌++◌, [], ◌∷◌}
use Rattle.std.proofs.lemmas.Result.{on_ok_weaker}
use Rattle.rep_schema.specs.declared.schema.TableEntry.{TableEntry}
use Rattle.rep_schema.specs.Named.{places_named}
use Rattle.rep_declare.specs.Additions.{with_groups}
use Rattle.rep_declare.proofs.ChangedTables.{table_changed, no_table_changed}
use Rattle.rep_declare.proofs.additions.add_group.Goals as goal

pub returns-in-Some-clause-ok : goal.returns-in-Some-clause-ok
returns-in-Some-clause-ok c =
    let change : TableEntry → TableEntry = λ entry. with_groups (entry.groups ++ record { name = c.args.group; columns = places_named entry.columns c.args.columns.now; methods = [] } ∷ []) entry in
    on_ok_weaker c.push_group.result
    (table_changed c.args.schema.now c.args.table.now change c.table_place.result c.as_slice.result.now c.as_slice.ensures c.table_place.ensures c.in-Some.place c.at_mut.result.now c.push_group.new.table c.in-Some.is c.at_mut.ensures.value)
    c.push_group.ensures.ok

pub returns-in-None-clause-ok : goal.returns-in-None-clause-ok
returns-in-None-clause-ok c =
    let change : TableEntry → TableEntry = λ entry. with_groups (entry.groups ++ record { name = c.args.group; columns = places_named entry.columns c.args.columns.now; methods = [] } ∷ []) entry in
    no_table_changed c.args.schema.now c.args.table.now change c.table_place.result c.as_slice.result.now c.as_slice.ensures c.table_place.ensures c.in-None.is
