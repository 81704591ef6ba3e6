use Rattle.std.proofs.Common.{ap, ◌∙◌}
use Rattle.deferred_queue.specs.Streams.{at_position}
use Rattle.deferred_queue.specs.QueueState.{entries_found}
use Rattle.deferred_queue.proofs.Found.{entries_found-find}
use Rattle.deferred_queue.proofs.streams.entry_to.Goals as goal

pub returns-in-Some : goal.returns-in-Some
returns-in-Some c = c.entry.ensures ∙ ap (at_position c.args.position) (ap entries_found c.in-Some.ensures ∙ entries_found-find c.args.site.now c.args.streams.now)

pub returns-in-None : goal.returns-in-None
returns-in-None c = ap (at_position c.args.position) (ap entries_found c.in-None.ensures ∙ entries_found-find c.args.site.now c.args.streams.now)
