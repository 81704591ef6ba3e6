use Rattle.live_streams.proofs.Crews.{nothing_was_run}
use Rattle.live_streams.proofs.run.run_streams.Goals as goal

pub returns-in-Err-clause-err : goal.returns-in-Err-clause-err
returns-in-Err-clause-err g c = nothing_was_run c.args.origins.now c.args.sessions c.args.site c.in-Err.site c.in-Err.ensures.err

pub returns-clause-err : goal.returns-clause-err
returns-clause-err g c =
    let made = c.made_together-crew.ensures in
    let began = c.in-Ok.ensures in
    rw (made.opened, made.origins, made.sessions, began.opened, began.origins, began.sessions) at c.ended.ensures.err
