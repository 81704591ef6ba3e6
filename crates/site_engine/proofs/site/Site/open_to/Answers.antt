use Rattle.site_engine.proofs.SiteSteps.{closed_is_empty, open_state, open_holds}
use Rattle.site_engine.proofs.site.Site.open_to.Goals as goal

pub open-requires : goal.open-requires
open-requires g c = record { empty = closed_is_empty _ _ _ _ _ _ c.self.inside.notes _ _ _ _ _ _ c.self.invariant c.args.site.now }

pub invariant_of-self : goal.invariant_of-self
invariant_of-self g c =
    let h = c.self.invariant in
    open_holds _ _ _ _ _ _ c.self.inside.notes _ _ _ _ _ _ h c.args.site.now c.open.new.self c.open.ensures.destinations (c.open.ensures.keeps _ _ _ h.keeps)

pub returns : goal.returns
returns g c = rw (← c.self.view_is) (open_state _ _ _ _ _ _ c.self.inside.notes _ _ _ _ _ _ c.self.invariant c.args.site.now c.open.new.self c.open.ensures.destinations c.open.ensures.purged)
