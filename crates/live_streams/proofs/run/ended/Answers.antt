use Rattle.live_streams.proofs.Crews.{crew_is_full}
use Rattle.live_streams.proofs.run.ended.Goals as goal

pub returns-clause-full : goal.returns-clause-full
returns-clause-full g c =
    let part = c.apply_until_quiet-settled.ensures.part in
    rw (← part.opened, ← part.origins, ← part.sessions, c.into_live-live.ensures.turns)
    (crew_is_full c.apply_until_quiet-settled.new.crew c.into_live-live.ensures.crew (c.had_each_block-had_each_block.ensures c.if-not-had_each_block.false) c.in-Ok.ensures.quiet)
