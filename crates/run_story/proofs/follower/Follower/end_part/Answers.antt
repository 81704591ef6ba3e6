-- The end of an open part.
use Rattle.std.proofs.Common.{refl, sym, ◌∙◌}
use Rattle.run_story.proofs.Lanes.{adds_ran}
use Rattle.run_story.proofs.Steps.{followed_end}
use Rattle.run_story.proofs.follower.Follower.end_part.Goals as goal

pub returns-in_ok-ended-in-Open-clause-lanes : goal.returns-in_ok-ended-in-Open-clause-lanes
returns-in_ok-ended-in-Open-clause-lanes g c = rw (← c.self.view_is) (adds_ran _ _ c.in-Open.part c.in_ok-ended-in-Open.ended c.in_ok-ended-in-Open.ensures refl)

pub returns-in_ok-ended-in-Open-clause-goes : goal.returns-in_ok-ended-in-Open-clause-goes
returns-in_ok-ended-in-Open-clause-goes g c =
    followed_end c.args.self.now c.self.inside.world c.self.inside.part c.self.inside.lanes.items c.args.number c.in-Open.part c.run_part.new.world c.in_ok-ended-in-Open.ended
    (sym c.self.view_is) (sym c.replace.ensures.value ∙ c.in-Open.is) c.in_ok-ended-in-Open.ensures
