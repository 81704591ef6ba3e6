use Rattle.std.proofs.Common.{length, sym, ap, ◌∙◌}
use Rattle.std.proofs.lemmas.Bool.{leb-true, le-leb}
use Rattle.deferred_queue.specs.QueueState.{entries_found}
use Rattle.deferred_queue.proofs.Found.{entries_found-find, destination-find, destination-none}
use Rattle.deferred_queue.proofs.streams.can_go.Goals as goal

pub returns-in-Some : goal.returns-in-Some
returns-in-Some c =
    let site = c.args.destination.now.site in
    let streams = c.args.streams.now in
    let last = c.last.ensures ∙ ap length (ap entries_found c.in-Some.ensures ∙ entries_found-find site streams) in (
      λ yes. record {
        destination = destination-find site streams c.in-Some.stream.now (sym c.in-Some.ensures);
        earlier = rw last at (leb-true _ _ yes);
      },
      λ goes. le-leb _ _ (rw last (goes.earlier)),
    )

pub returns-in-None : goal.returns-in-None
returns-in-None c = (λ yes. cc, λ goes. absurd (destination-none c.args.destination.now.site c.args.streams.now (sym c.in-None.ensures) goes.destination))
