use Rattle.std.proofs.Common.{ap, ◌∙◌}
use Rattle.deferred_queue.specs.QueueState.{place_in, entries_found}
use Rattle.deferred_queue.proofs.Found.{entries_found-find}
use Rattle.deferred_queue.proofs.streams.place_to.Goals as goal

pub returns-in-Some : goal.returns-in-Some
returns-in-Some c = c.place_of.ensures ∙ ap (place_in c.args.number) (ap entries_found c.in-Some.ensures ∙ entries_found-find c.args.site.now c.args.streams.now)

pub returns-in-None : goal.returns-in-None
returns-in-None c = ap (place_in c.args.number) (ap entries_found c.in-None.ensures ∙ entries_found-find c.args.site.now c.args.streams.now)
