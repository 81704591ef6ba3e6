use Rattle.std.proofs.Common.{List, length, ap, arith}
use Rattle.rep_values.specs.declared.name.SiteName.{SiteName}
use Rattle.live_streams.proofs.Quiet.{each_place_is_quiet}
use Rattle.live_streams.proofs.rounds.round.Goals as goal

pub returns-clause-quiet : goal.returns-clause-quiet
returns-clause-quiet g c = λ none.
    each_place_is_quiet c.loop-place.crew.origins c.loop-place.crew.site (λ place within. c.loop-place.invariant.quiet none place
    (omega (arith, within, c.origin_count-place-end.ensures, c.loop-place-test.false, ap (λ (os : List SiteName). length os) c.loop-place.invariant.part.origins)))
