-- A line that was done adds the lanes that it declares, and one that was refused is a step.
use Rattle.std.proofs.Common.{ap, ◌∙◌}
use Rattle.world_run.specs.Lent.{LentWorld}
use Rattle.run_story.proofs.Lanes.{adds_followed}
use Rattle.run_story.proofs.Steps.{refused_steps}
use Rattle.run_story.proofs.follower.Follower.step.Goals as goal

pub returns-in-Ok-clause-lanes : goal.returns-in-Ok-clause-lanes
returns-in-Ok-clause-lanes c =
    rw (← c.self.view_is)
    (adds_followed c.follow_done.result c.args.number c.args.command.now _ c.follow_done.new.self c.step.new.self.world c.in-Ok.field-0 c.in-Ok.ensures.does
    (ap (λ (v : LentWorld). v.world) c.follow_done.ensures.world) c.follow_done.ensures.lanes)

pub returns-in-Ok-follow_refused-clause-world : goal.returns-in-Ok-follow_refused-clause-world
returns-in-Ok-follow_refused-clause-world c =
    rw (← c.self.view_is)
    (ap (λ (v : LentWorld). v.world) c.in-Ok-follow_refused.ensures.world
    ∙ refused_steps c.args.number c.args.command.now _ c.step.new.self.world c.in-Err.refused c.in-Ok-follow_refused.ensures.memory c.in-Err.ensures.does)
