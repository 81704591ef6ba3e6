-- It is the same part.
use Rattle.live_streams.specs.Crews.{IsSamePart}
use Rattle.live_streams.proofs.rounds.apply_until_quiet.Given as goal

abbrev pub invariant-loop : goal.invariant-loop
invariant-loop g l = IsSamePart l.fn.crew l.crew
