use Rattle.std.proofs.Common.{◌≡◌, ◌<◌, ◌≤◌, length, get_or, set, Some, refl, sym, ap, ◌∙◌, arith}
use Rattle.std.proofs.lemmas.List.{length-set}
use Rattle.txn_effects.specs.Sets.{value_after}
use Rattle.txn_effects.specs.ByColumn.{set_at}
use Rattle.local_txn.proofs.SetWalk.{set-more, set-kept, set-end, out-here, where_in_range-None, where_in_range-Some, row_in_range-set}
use Rattle.local_txn.proofs.sets.set_row.Goals as goal
use Rattle.local_txn.proofs.sets.set_row.Goals.{in-Some+in_ok-value, in_default}

pub returns-in_err-value : goal.returns-in_err-value
returns-in_err-value c =
    let row = c.loop-i.row in
    let i = c.loop-i.i in
    let v = c.index-values-i.result in
    let found = c.args.sets.now in
    let is : v ≡ get_or row i v = rw c.values.ensures.value at c.index-values-i.is in
    let within : i < length row = omega (arith, c.loop-i-test.true, ap length c.values-i-end.ensures.value, c.loop-i.invariant.size) in
    let there : set_at found i ≡ Some c.in-Some.set.now = sym c.at.ensures ∙ rw c.in-Some.is refl in
    let out = where_in_range-None (value_after c.in-Some.set.now.how v) (sym c.value_after.ensures ∙ c.in_err-value.was {u = tt}) in
    let outside = out-here found c.args.row row i v (value_after c.in-Some.set.now.how v) within is (rw there refl) c.loop-i.invariant.rest out in
    c.from_residual.ensures ∙ rw outside refl

pub loop-i-preserved : goal.loop-i-preserved
loop-i-preserved c =
    let row = c.loop-i.row in
    let i = c.loop-i.i in
    let found = c.args.sets.now in
    let within : i < length row = omega (arith, c.loop-i-test.true, ap length c.values-i-end.ensures.value, c.loop-i.invariant.size) in
    elim c.match-at.branch [
      | in-Some+in_ok-value w ↦
          let v = w.index-values-i.result in
          let is : v ≡ get_or row i v = rw w.values.ensures.value at w.index-values-i.is in
          let there : set_at found i ≡ Some w.in-Some.set.now = sym c.at.ensures ∙ rw w.in-Some.is refl in
          let here = where_in_range-Some (value_after w.in-Some.set.now.how v) w.in_ok-value.value (sym w.value_after.ensures ∙ w.in_ok-value.was) in
          let now : c.match-at.row ≡ set row i w.in_ok-value.value = w.row-is ∙ w.set.ensures in
          rw now (record {
            size = length-set row i w.in_ok-value.value ∙ c.loop-i.invariant.size;
            range = row_in_range-set row i w.in_ok-value.value c.loop-i.invariant.range here.1;
            rest = set-more found c.args.row row i v w.in_ok-value.value within is (here.0 ∙ rw there refl) c.loop-i.invariant.rest;
          })
      | in_default w ↦
          rw w.row-is (record {
            size = c.loop-i.invariant.size;
            range = c.loop-i.invariant.range;
            rest = set-kept found c.args.row row i c.loop-i.invariant.rest within (sym c.at.ensures ∙ rw w.in_default.is refl);
          })
    ]

pub returns : goal.returns
returns c =
    let past : length c.loop-i.row ≤ c.loop-i.i = omega (arith, c.loop-i-test.false, ap length c.values-i-end.ensures.value, c.loop-i.invariant.size) in
    let all = set-end c.args.sets.now c.args.row c.loop-i.row c.loop-i.i c.loop-i.invariant.rest past in
    rw (all, c.loop-i.invariant.range) refl
