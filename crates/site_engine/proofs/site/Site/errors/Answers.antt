use Rattle.sender_inbox.proofs.StandingErrors.{in_order-lists}
use Rattle.site_engine.proofs.site.Site.errors.Goals as goal

pub returns : goal.returns
returns g c = rw (← c.self.view_is, c.self.invariant.errors_are) search (in_order-lists)
