-- The place that is found is the site's.
use Rattle.world.proofs.Places.{finds_site}
use Rattle.world.proofs.parts.place_of.Goals as goal

pub returns : goal.returns
returns c = finds_site c.args.name.now c.args.sites.now c.first_of.result c.first_of.ensures
