use Rattle.script_drive.proofs.FedLemmas.{fed_then}
use Rattle.script_drive.proofs.laws.run_goes_on.Goals as goal

pub returns : goal.returns
returns g c step old bytes out new rest fed = fed_then step old bytes out new rest fed
