-- A level comes into the priority group of a name, which comes with it where it isn't there.
use Rattle.std.proofs.Common.{◌≡◌, sym, ap, ◌∙◌, ◌++◌, [], ◌∷◌, None, w64}
use Rattle.std.specs.Prelude.{slice_set}
use Rattle.std.specs.List.{find, position}
use Rattle.std.proofs.Math.Facts.{to_z-of_z}
use Rattle.std.proofs.lemmas.Result.{on_ok_weaker}
use Rattle.rep_values.specs.Literal.{value_of_literal}
use Rattle.rep_schema.specs.Named.{is_priority}
use Rattle.rep_declare.specs.Additions.{with_changed, with_level, with_priorities}
use Rattle.rep_declare.proofs.Changed.{changed_read}
use Rattle.rep_declare.proofs.ListNames.{same_bytes-same}
use Rattle.rep_declare.proofs.PriorityNames.{with_changed-new, with_priority-placed, find-unplaced}
use Rattle.rep_declare.proofs.additions.add_level.Goals as goal

pub returns-in-Some-clause-ok : goal.returns-in-Some-clause-ok
returns-in-Some-clause-ok c =
    let name = c.args.group.now in
    let groups = c.args.schema.now.priorities in
    let by = c.priority_place.ensures ∙ ap (position (is_priority name)) c.as_slice.ensures in
    let level = with_level (value_of_literal c.args.value.now) c.args.level in
    on_ok_weaker c.put_level_in.result
    (λ put. ap (λ gs. with_priorities gs c.args.schema.now)
    (ap (slice_set groups c.in-Some.place) (put ∙ ap (λ z. with_level (value_of_literal c.args.value.now) z c.at_mut.result.now) (to_z-of_z {w = w64} c.ranges.level))
    ∙ changed_read (is_priority name) level groups c.priority_place.result c.in-Some.place c.at_mut.result.now by c.in-Some.is c.at_mut.ensures.value
    ∙ ap (with_changed (is_priority name) level) (sym (with_priority-placed name groups c.in-Some.place (sym by ∙ c.in-Some.is)))))
    c.put_level_in.ensures.ok

pub returns-in-None-clause-ok : goal.returns-in-None-clause-ok
returns-in-None-clause-ok c =
    let name = c.args.group.now in
    let groups = c.args.schema.now.priorities in
    let by = c.priority_place.ensures ∙ ap (position (is_priority name)) c.as_slice.ensures in
    let absent : find (is_priority name) groups ≡ None = find-unplaced name groups (sym by ∙ c.in-None.is) in
    on_ok_weaker c.push_priority.result
    (λ pushed. pushed ∙ ap (λ gs. with_priorities gs c.args.schema.now)
    (ap (λ z. groups ++ with_level (value_of_literal c.args.value.now) z (record { name = name; levels = [] }) ∷ []) (to_z-of_z {w = w64} c.ranges.level)
    ∙ sym (with_changed-new name (with_level (value_of_literal c.args.value.now) c.args.level) (same_bytes-same name) groups absent)))
    c.push_priority.ensures.ok
