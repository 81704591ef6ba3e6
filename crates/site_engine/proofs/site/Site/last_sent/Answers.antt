use Rattle.std.proofs.Common.{◌∙◌}
use Rattle.site_engine.proofs.SiteSteps.{last_sent_is}
use Rattle.site_engine.proofs.site.Site.last_sent.Goals as goal

pub returns : goal.returns
returns g c = rw (← c.self.view_is) (c.last.ensures ∙ last_sent_is _ _ _ _ _ _ c.self.inside.notes _ _ _ _ _ _ c.self.invariant c.args.to.now)
