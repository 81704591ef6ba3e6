use Rattle.std.proofs.Common.{◌≡◌, ◌<◌, ◌∙◌, length, true, false, Some, ap, refl, sym, arith}
use Rattle.std.specs.Prelude.{slice_get}
use Rattle.std.specs.Bool.{one_answer}
use Rattle.std.proofs.lemmas.List.{drop_all}
use Rattle.std.proofs.lemmas.Option.{slice_get-get_or}
use Rattle.rep_values.specs.Equality.{value_eq, value_eq-Decides}
use Rattle.proc_state.specs.Carriers.{blank}
use Rattle.proc_calls.proofs.Carried.{other_length, blank_more, blank_stops}
use Rattle.proc_calls.proofs.carrying.are_blank.Goals as goal

pub returns-then-columns-values : goal.returns-then-columns-values
returns-then-columns-values c = sym (other_length c.args.columns.now c.args.values.now c.if-columns-values.true)

pub returns-then-not-same_value : goal.returns-then-not-same_value
returns-then-not-same_value c =
    let columns = c.args.columns.now in
    let values = c.args.values.now in
    let i = c.loop-i.i in
    let column = c.index-columns-i.result in
    let value = c.index-values-i.result in
    let within : i < length values = omega (arith, c.loop-i-test.true, c.loop-i.invariant.long) in
    let here : slice_get columns i ≡ Some column = slice_get-get_or columns i column c.loop-i-test.true ∙ ap Some (sym c.index-columns-i.is) in
    let there : slice_get values i ≡ Some value = slice_get-get_or values i value within ∙ ap Some (sym c.index-values-i.is) in
    let same = rw c.blank.ensures at c.same_value.ensures in
    let other : value_eq value (blank column) ≡ false = sym (one_answer _ _ same (value_eq-Decides value (blank column))) ∙ c.if-not-same_value.true in
    sym (blank_stops columns values i c.loop-i.invariant.rest column value here there other)

pub loop-i-preserved : goal.loop-i-preserved
loop-i-preserved c =
    let columns = c.args.columns.now in
    let values = c.args.values.now in
    let i = c.loop-i.i in
    let column = c.index-columns-i.result in
    let value = c.index-values-i.result in
    let within : i < length values = omega (arith, c.loop-i-test.true, c.loop-i.invariant.long) in
    let here : slice_get columns i ≡ Some column = slice_get-get_or columns i column c.loop-i-test.true ∙ ap Some (sym c.index-columns-i.is) in
    let there : slice_get values i ≡ Some value = slice_get-get_or values i value within ∙ ap Some (sym c.index-values-i.is) in
    let same = rw c.blank.ensures at c.same_value.ensures in
    let is : value_eq value (blank column) ≡ true = sym (one_answer _ _ same (value_eq-Decides value (blank column))) ∙ c.if-not-same_value.false in
    record {
      long = c.loop-i.invariant.long;
      rest = blank_more columns values i c.loop-i.invariant.rest column value here there is;
    }

pub returns : goal.returns
returns c = sym (c.loop-i.invariant.rest ∙ rw (drop_all c.loop-i.i c.args.columns.now c.loop-i-test.false, drop_all c.loop-i.i c.args.values.now (omega (arith, c.loop-i-test.false, c.loop-i.invariant.long))) refl)
