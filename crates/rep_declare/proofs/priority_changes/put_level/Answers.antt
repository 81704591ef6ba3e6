use Rattle.std.proofs.Common.{◌≡◌, ◌∙◌, ap}
use Rattle.std.specs.List.{position}
use Rattle.std.proofs.lemmas.Bool.{both_ways}
use Rattle.std.specs.Ordering.{is_ge}
use Rattle.rep_schema.specs.Levels.{beside_value}
use Rattle.rep_declare.proofs.PutLevels.{set_level, insert_level, push_level}
use Rattle.rep_declare.proofs.priority_changes.put_level.Goals as goal

pub returns-then-same_value-clause-ok : goal.returns-then-same_value-clause-ok
returns-then-same_value-clause-ok c =
    let by = c.first_not_below.ensures ∙ ap (position (λ l. is_ge (beside_value c.args.level.value l))) c.as_slice.ensures.value in
    set_level c.args.level c.args.levels.now.items c.first_not_below.result by c.in-Some.place c.index.result.now c.in-Some.is c.index.ensures (c.same_value.ensures.0 c.if-same_value.true)

pub returns-in_ok-insert-in-Some-clause-ok : goal.returns-in_ok-insert-in-Some-clause-ok
returns-in_ok-insert-in-Some-clause-ok c =
    let by = c.first_not_below.ensures ∙ ap (position (λ l. is_ge (beside_value c.args.level.value l))) c.as_slice.ensures.value in
    let other = λ (same : c.index.result.now.value ≡ c.args.level.value). both_ways _ c.if-same_value.false (c.same_value.ensures.1 same) in
    c.in_ok-insert-in-Some.ensures.items
    ∙ insert_level c.args.level c.args.levels.now.items c.first_not_below.result by c.in-Some.place c.index.result.now c.in-Some.is c.index.ensures other

pub returns-in_ok-push-in-None-clause-ok : goal.returns-in_ok-push-in-None-clause-ok
returns-in_ok-push-in-None-clause-ok c =
    let by = c.first_not_below.ensures ∙ ap (position (λ l. is_ge (beside_value c.args.level.value l))) c.as_slice.ensures.value in
    c.in_ok-push-in-None.ensures.items ∙ push_level c.args.level c.args.levels.now.items c.first_not_below.result by c.in-None.is
