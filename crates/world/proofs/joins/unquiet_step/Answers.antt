-- Something is told where something hinders.
use Rattle.std.proofs.Common.{◌∙◌}
use Rattle.world.proofs.Quiet.{told_step_is}
use Rattle.world.proofs.joins.unquiet_step.Goals as goal

pub returns : goal.returns
returns c = c.told_step.ensures ∙ told_step_is c.args.sites.now c.args.site.now c.unquiet_told-count.result c.unquiet_told-count.ensures
