-- The origins are the other masters.
use Rattle.std.proofs.Common.{List, subst, ◌∙◌}
use Rattle.rep_values.specs.declared.name.SiteName.{SiteName}
use Rattle.world_run.specs.Streaming.{AnswersStreams}
use Rattle.run_story.proofs.living.turns_at.Goals as goal

pub returns : goal.returns
returns g c = subst (λ (origins : List SiteName). AnswersStreams origins c.args.sessions c.args.site c.streamed.result) (c.as_slice.ensures ∙ c.in_ok-origins.ensures) c.streamed.ensures
