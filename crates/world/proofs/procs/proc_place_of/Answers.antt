-- The place that is found is the site's.
use Rattle.world.proofs.ProcPlaces.{finds_proc}
use Rattle.world.proofs.procs.proc_place_of.Goals as goal

pub returns : goal.returns
returns c = finds_proc c.args.name.now c.args.sites.now c.first_proc.result c.first_proc.ensures
