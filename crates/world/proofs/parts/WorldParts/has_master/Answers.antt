-- The site at the place that is found is the one of the name.
use Rattle.std.proofs.Common.{sym, ap, ◌∙◌}
use Rattle.site_events.specs.Events.{is_master_in}
use Rattle.world.proofs.Written.{site_of-world}
use Rattle.world.proofs.parts.WorldParts.has_master.Goals as goal

pub returns : goal.returns
returns c =
    let there = site_of-world _ _ _ _ _ _ c.self.view_is c.deref.ensures.value c.in-Some.ensures c.index.ensures in
    c.is_master.ensures ∙ ap is_master_in (sym there)
