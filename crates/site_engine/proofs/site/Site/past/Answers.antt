use Rattle.std.proofs.Common.{refl}
use Rattle.site_engine.proofs.Reading.{past_is}
use Rattle.site_engine.proofs.site.Site.past.Goals as goal

pub returns : goal.returns
returns g c =
    let seen = rw (c.deref.ensures.value, c.schema.ensures.value) at c.causal_past.ensures in
    rw (← c.self.view_is, ← past_is _ _ _ _ _ _ _ c.self.invariant refl) seen
