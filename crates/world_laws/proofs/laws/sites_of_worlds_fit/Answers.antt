-- The law of what fits.
use Rattle.world_laws.proofs.FittingWorlds.{each_fits_in_worlds, each_can_pass_in_any_order}
use Rattle.world_laws.proofs.laws.sites_of_worlds_fit.Goals as goal

pub returns-clause-fits : goal.returns-clause-fits
returns-clause-fits c = each_fits_in_worlds

pub returns-clause-any_order : goal.returns-clause-any_order
returns-clause-any_order c = each_can_pass_in_any_order
