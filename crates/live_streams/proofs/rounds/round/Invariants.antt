-- It is the same part, and as long as nothing was ready nothing is of the origins so far.
use Rattle.std.proofs.Common.{◌≡◌, false}
use Rattle.live_streams.specs.Quiet.{AreQuietBefore}
use Rattle.live_streams.specs.Crews.{IsSamePart}
use Rattle.live_streams.proofs.rounds.round.Given as goal

abbrev pub invariant-loop-place : goal.invariant-loop-place
invariant-loop-place g l = record { part : IsSamePart l.fn.crew l.crew; quiet : l.some ≡ false → AreQuietBefore l.place l.crew.origins l.crew.site }
