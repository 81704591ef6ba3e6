use Rattle.std.proofs.Common.{arith}
use Rattle.site_engine.proofs.Waiting.{none_yet}
use Rattle.site_engine.proofs.site.Site.next_ready.Goals as goal

pub loop-place-init : goal.loop-place-init
loop-place-init g c = none_yet c.args.origin.now c.args.self.now c.args.start c.args.start (omega arith)
