-- The end of an open part.
use Rattle.std.proofs.Common.{sym, ◌∙◌}
use Rattle.world_run.specs.LiveRunning.{world_in}
use Rattle.world_run.proofs.LiveRunning.{end_goes}
use Rattle.world_run.proofs.live_script.LiveScript.end.Goals as goal

pub returns-in_ok-ran-in-Open-clause-goes : goal.returns-in_ok-ran-in-Open-clause-goes
returns-in_ok-ran-in-Open-clause-goes g c =
    end_goes c.args.self.now (world_in c.self.inside.world) c.self.inside.part c.self.inside.json c.args.number c.in-Open.part c.run_open.new.world c.in_ok-ran-in-Open.ran.part _
    (sym c.self.view_is) (sym c.replace.ensures.value ∙ c.in-Open.is) c.in_ok-ran-in-Open.ensures.ran
