-- Writing values place by place.
use Rattle.std.proofs.Common.{sym, ◌∙◌, arith}
use Rattle.txn_apply.proofs.Written.{with_values-end}
use Rattle.txn_apply.proofs.part.set_values.Goals as goal

pub returns : goal.returns
returns c = sym (with_values-end c.args.places.now c.args.values.now c.loop-i.row c.loop-i.i (omega (arith, c.min-i-end.ensures, c.loop-i-test.false))) ∙ c.loop-i.invariant.rest
