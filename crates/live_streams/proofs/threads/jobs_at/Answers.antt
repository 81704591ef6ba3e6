use Rattle.std.proofs.Common.{rules}
use Rattle.std.proofs.lemmas.List.Elements.{All-push}
use denote.Exit.{no}
use denote.Param.Send.{param_send, arg_send}
use Rattle.site_gate.specs.Passes.{IsPassOf}
use Rattle.live_streams.proofs.Crossing.{shared_send}
use Rattle.live_streams.proofs.threads.jobs_at.Goals as goal

pub split-requires-send-T : goal.split-requires-send-T
split-requires-send-T g c κs within = param_send 0 _ (arg_send _ no _ (shared_send _ g.R.RowStore c.type_bounds.send-R))

pub loop-work-preserved : goal.loop-work-preserved
loop-work-preserved g c =
    let l = c.loop-work.invariant in
    let pushed = c.in-Ok.ensures.items in (
      search rules,
      search rules,
      rw pushed (All-push (λ job. IsPassOf c.args.gate.now job.pass) c.loop-work.jobs.items _ l.2 (search rules)),
    )
