-- The site at the place that is found is the one of the name.
use Rattle.std.proofs.Common.{refl, sym, ap, ◌∙◌}
use Rattle.world_state.specs.Refusals.{unquiet_step}
use Rattle.world.proofs.Written.{site_of-read}
use Rattle.world.proofs.joins.named_step.Goals as goal

pub returns : goal.returns
returns c =
    let there = site_of-read c.args.name.now c.args.sites.now c.args.sites.now _ _ refl c.in-Some.ensures c.index-sites-place.is in
    c.unquiet_step.ensures ∙ ap (unquiet_step c.args.sites.now) (sym there)
