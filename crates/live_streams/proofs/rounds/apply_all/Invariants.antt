-- It is the same part, and as long as nothing was ready it is as it was.
use Rattle.std.proofs.Common.{◌≡◌, false}
use Rattle.live_streams.specs.Crews.{IsSamePart}
use Rattle.live_streams.proofs.rounds.apply_all.Given as goal

abbrev pub invariant-loop : goal.invariant-loop
invariant-loop g l = record { part : IsSamePart l.fn.crew l.crew; site : l.some ≡ false → l.crew.site ≡ l.fn.crew.site }
