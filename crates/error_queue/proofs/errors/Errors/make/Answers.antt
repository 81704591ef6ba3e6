use Rattle.std.proofs.Common.{refl}
use Rattle.error_queue.proofs.Counts.{in_order-no_errors}
use Rattle.error_queue.proofs.errors.Errors.make.Goals as goal

pub invariant_of-result : goal.invariant_of-result
invariant_of-result c = rw (c.in_ok-lists.ensures, in_order-no_errors c.args.origins.now) refl
