use Rattle.std.proofs.Common.{◌∙◌}
use Rattle.site_engine.proofs.SiteSteps.{count_is}
use Rattle.site_engine.proofs.site.Site.queue_count.Goals as goal

pub returns : goal.returns
returns g c = rw (← c.self.view_is) (c.count.ensures ∙ count_is _ _ _ _ _ _ c.self.inside.notes _ _ _ _ _ _ c.self.invariant)
