-- The laws of what fits.
use Rattle.proc_state.proofs.Fitting.{every_site_fits}
use Rattle.proc_state.proofs.Sending.{sent_packets_fit}
use Rattle.proc_state.proofs.laws.every_site_fits.Goals as goal

pub returns-clause-fits : goal.returns-clause-fits
returns-clause-fits c = every_site_fits

pub returns-clause-sent : goal.returns-clause-sent
returns-clause-sent c = sent_packets_fit
