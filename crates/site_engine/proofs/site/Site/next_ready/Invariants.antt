-- Nothing before the place is ready.
use Rattle.site_engine.specs.Looking.{NoneReady}
use Rattle.site_engine.proofs.site.Site.next_ready.Given as goal

abbrev pub invariant-loop-place : goal.invariant-loop-place
invariant-loop-place g l = NoneReady l.origin l.self l.start l.place
