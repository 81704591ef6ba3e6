-- A method comes into a group of the table of a name.
use Rattle.std.proofs.Common.{ap, ◌∙◌}
use Rattle.std.specs.Prelude.{slice_set}
use Rattle.std.specs.List.{position}
use Rattle.std.proofs.lemmas.Result.{on_ok_weaker}
use Rattle.rep_schema.specs.declared.schema.TableEntry.{TableEntry}
use Rattle.rep_schema.specs.Named.{is_table, is_group}
use Rattle.rep_declare.specs.Additions.{with_groups, with_changed, with_method, method_of}
use Rattle.rep_declare.proofs.Changed.{changed_read, none_read}
use Rattle.rep_declare.proofs.additions.add_method_among.Goals as goal

pub returns-in-Some-clause-ok : goal.returns-in-Some-clause-ok
returns-in-Some-clause-ok c =
    let tables = c.args.tables.now in
    let change : TableEntry → TableEntry = λ entry. with_groups (with_changed (is_group c.args.group.now) (with_method (method_of c.args.priorities.now entry.columns c.args.words.now)) entry.groups) entry in
    on_ok_weaker c.push_method.result
    (λ pushed. ap (slice_set tables c.in-Some.place) pushed
    ∙ changed_read (is_table c.args.table.now) change tables c.table_place.result c.in-Some.place c.at_mut.result.now (c.table_place.ensures ∙ ap (position (is_table c.args.table.now)) c.as_slice.ensures) c.in-Some.is c.at_mut.ensures.value)
    c.push_method.ensures.ok

pub returns-in-None-clause-ok : goal.returns-in-None-clause-ok
returns-in-None-clause-ok c =
    let change : TableEntry → TableEntry = λ entry. with_groups (with_changed (is_group c.args.group.now) (with_method (method_of c.args.priorities.now entry.columns c.args.words.now)) entry.groups) entry in
    none_read (is_table c.args.table.now) change c.args.tables.now c.table_place.result (c.table_place.ensures ∙ ap (position (is_table c.args.table.now)) c.as_slice.ensures) c.in-None.is
