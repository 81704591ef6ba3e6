-- A method comes into the constraint of a name.
use Rattle.std.proofs.Common.{ap, ◌∙◌}
use Rattle.std.specs.Prelude.{slice_set}
use Rattle.std.specs.List.{position}
use Rattle.std.proofs.lemmas.Result.{on_ok_weaker}
use Rattle.rep_schema.specs.Named.{is_constraint}
use Rattle.rep_declare.specs.Additions.{with_unique_method}
use Rattle.rep_declare.proofs.Changed.{changed_read, none_read}
use Rattle.rep_declare.proofs.table_changes.push_constraint_method.Goals as goal

pub returns-in-Some-clause-ok : goal.returns-in-Some-clause-ok
returns-in-Some-clause-ok c =
    let all = c.args.constraints.now in
    let one = c.at_mut.result.now in
    on_ok_weaker c.push.result
    (λ pushed. ap (λ methods. slice_set all c.in-Some.place (record one { methods = methods })) pushed
    ∙ changed_read (is_constraint c.args.name.now) (with_unique_method c.args.method) all c.constraint_place.result c.in-Some.place one (c.constraint_place.ensures ∙ ap (position (is_constraint c.args.name.now)) c.as_slice.ensures) c.in-Some.is c.at_mut.ensures.value)
    c.push.ensures.ok

pub returns-in-None-clause-ok : goal.returns-in-None-clause-ok
returns-in-None-clause-ok c =
    none_read (is_constraint c.args.name.now) (with_unique_method c.args.method) c.args.constraints.now c.constraint_place.result (c.constraint_place.ensures ∙ ap (position (is_constraint c.args.name.now)) c.as_slice.ensures) c.in-None.is
