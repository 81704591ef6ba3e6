-- The law of what fits.
use Rattle.event_laws.proofs.FittingSites.{every_site_fits}
use Rattle.event_laws.proofs.laws.every_site_fits.Goals as goal

pub returns : goal.returns
returns c = every_site_fits
