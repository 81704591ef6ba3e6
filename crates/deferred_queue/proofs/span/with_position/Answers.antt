use Rattle.std.proofs.Common.{◌≡◌}
use Rattle.deferred_queue.proofs.Sweeping.{number_at, nothing_placed}
use Rattle.deferred_queue.proofs.span.with_position.Goals as goal

pub returns-in-Some-clause-covers : goal.returns-in-Some-clause-covers
returns-in-Some-clause-covers c = λ number placed passed.
    let same : c.in-Some.entry.now.number ≡ number = number_at number c.args.position c.args.stream.now.kept.entries c.in-Some.entry.now placed c.in-Some.ensures in
    rw same at c.with_passed.ensures.covers passed

pub returns-in-None-clause-covers : goal.returns-in-None-clause-covers
returns-in-None-clause-covers c = λ number placed passed. absurd (nothing_placed number c.args.position c.args.stream.now.kept.entries placed c.in-None.ensures)
