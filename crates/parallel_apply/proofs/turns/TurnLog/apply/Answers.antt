use Rattle.parallel_apply.proofs.TurnLogs.{turn-applied}
use Rattle.parallel_apply.proofs.turns.TurnLog.apply.Goals as goal

pub returns : goal.returns
returns c = rw c.push.ensures.items (turn-applied c.args.self.now.installed.items c.args.self.now.quiet c.args.position)
