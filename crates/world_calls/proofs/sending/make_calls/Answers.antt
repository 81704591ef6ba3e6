-- The call that fails stops them.
use Rattle.world_calls.proofs.BlockCalls.{stops_so}
use Rattle.world_calls.proofs.sending.make_calls.Goals as goal

pub call-requires : goal.call-requires
call-requires c = record { fit = c.requires.fit; some = c.requires.some; most = c.requires.most }

pub returns-in-Err-clause-err : goal.returns-in-Err-clause-err
returns-in-Err-clause-err c = rw c.stop_of.ensures (stops_so c.args.calls.now c.args.site.now c.in-Err.stop c.in-Err.ensures.err)
