use Rattle.std.proofs.Common.{arith}
use Rattle.proc_calls.proofs.trail.Trail.reserve.Goals as goal

-- each row that was taken is counted
pub returns-clause-beside : goal.returns-clause-beside
returns-clause-beside g c = rw (← c.self.view_is) (omega (arith, c.self.invariant.enough c.args.table, c.in_ok-reserve-2.ensures.ok))
