use Rattle.std.proofs.Common.{ap, ◌∙◌}
use Rattle.deferred_queue.specs.Streams.{last_position}
use Rattle.proc_calls.proofs.ProcSiteSteps.{queue_is}
use Rattle.proc_calls.proofs.site.ProcSite.last.Goals as goal

pub returns : goal.returns
returns c = rw (← c.self.view_is) (c.last.ensures ∙ ap (last_position c.args.to.now) (queue_is _ _ _ _ _ _ _ _ c.self.invariant))
