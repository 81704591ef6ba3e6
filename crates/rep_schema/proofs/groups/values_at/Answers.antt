use Rattle.std.proofs.Common.{sym, ap, ◌++◌, ◌∷◌, [], ◌∙◌, arith}
use Rattle.std.proofs.lemmas.List.{append-nil}
use Rattle.rep_schema.proofs.ValuesAt.{take-values_at_some, take-values_at_none}
use Rattle.rep_schema.proofs.groups.values_at.Goals as goal
use Rattle.rep_schema.proofs.groups.values_at.Goals.{in-Some, in_default}

-- the value at the next place is added, where the row has one
pub loop-place-preserved : goal.loop-place-preserved
loop-place-preserved c =
    let so_far = c.loop-place.invariant in
    elim c.match-value_at.branch [
      | in-Some w ↦
          let more = take-values_at_some c.args.places.now c.args.row.now c.loop-place.place-index c.loop-place-test.true w.in-Some.value.now (sym w.in-Some.ensures) in
          rw w.values-is (record {
            so_far = w.push_reserved.ensures.items ∙ ap (λ values. values ++ w.in-Some.value.now ∷ []) so_far.so_far ∙ sym more;
            few = omega (arith, w.push_reserved.ensures.len, so_far.few);
            room = omega (arith, w.push_reserved.ensures.capacity, so_far.room);
          })
      | in_default w ↦
          let same = take-values_at_none c.args.places.now c.args.row.now c.loop-place.place-index c.loop-place-test.true (sym w.in_default.ensures) in
          rw w.values-is (record {
            so_far = so_far.so_far ∙ sym (same ∙ append-nil _);
            few = omega (arith, so_far.few);
            room = so_far.room;
          })
    ]
