-- A method comes into the group of a name.
use Rattle.std.proofs.Common.{ap, ◌∙◌}
use Rattle.std.specs.Prelude.{slice_set}
use Rattle.std.specs.List.{position}
use Rattle.std.proofs.lemmas.Result.{on_ok_weaker}
use Rattle.rep_schema.specs.Named.{is_group}
use Rattle.rep_declare.specs.Additions.{with_method}
use Rattle.rep_declare.proofs.Changed.{changed_read, none_read}
use Rattle.rep_declare.proofs.table_changes.push_group_method.Goals as goal

pub returns-in-Some-clause-ok : goal.returns-in-Some-clause-ok
returns-in-Some-clause-ok c =
    let all = c.args.groups.now in
    let one = c.at_mut.result.now in
    on_ok_weaker c.push.result
    (λ pushed. ap (λ methods. slice_set all c.in-Some.place (record one { methods = methods })) pushed
    ∙ changed_read (is_group c.args.name.now) (with_method c.args.method) all c.group_place.result c.in-Some.place one (c.group_place.ensures ∙ ap (position (is_group c.args.name.now)) c.as_slice.ensures) c.in-Some.is c.at_mut.ensures.value)
    c.push.ensures.ok

pub returns-in-None-clause-ok : goal.returns-in-None-clause-ok
returns-in-None-clause-ok c =
    none_read (is_group c.args.name.now) (with_method c.args.method) c.args.groups.now c.group_place.result (c.group_place.ensures ∙ ap (position (is_group c.args.name.now)) c.as_slice.ensures) c.in-None.is
