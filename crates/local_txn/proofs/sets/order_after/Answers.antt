use Rattle.std.proofs.Common.{sym}
use Rattle.local_txn.proofs.SetWalk.{value_cmp-same}
use Rattle.local_txn.proofs.sets.order_after.Goals as goal

pub returns-in-None : goal.returns-in-None
returns-in-None c = rw c.in-None.is (sym (value_cmp-same c.args.old.now))
