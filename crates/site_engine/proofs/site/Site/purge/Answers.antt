use Rattle.std.proofs.Common.{◌∙◌}
use Rattle.site_engine.proofs.SiteSteps.{purge_state, purge_count}
use Rattle.site_engine.proofs.site.Site.purge.Goals as goal

pub returns-clause-site : goal.returns-clause-site
returns-clause-site g c = rw (← c.self.view_is) (purge_state _ _ _ _ _ _ c.self.inside.notes _ _ _ _ _ _ c.self.invariant c.purge.new.self c.purge.ensures.destinations c.purge.ensures.purged)

pub returns-clause-count : goal.returns-clause-count
returns-clause-count g c = rw (← c.self.view_is) (c.purge.ensures.count ∙ purge_count _ _ _ _ _ _ c.self.inside.notes _ _ _ _ _ _ c.self.invariant c.purge.new.self c.purge.ensures.purged)
