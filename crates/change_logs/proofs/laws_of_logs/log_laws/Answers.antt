use Rattle.change_logs.proofs.LastMoments.{moment_in-noted, moment_in-other, moment_in-purged}
use Rattle.change_logs.proofs.laws_of_logs.log_laws.Goals as goal

pub returns-clause-last : goal.returns-clause-last
returns-clause-last c = moment_in-noted

pub returns-clause-other : goal.returns-clause-other
returns-clause-other c = moment_in-other

pub returns-clause-purged : goal.returns-clause-purged
returns-clause-purged c = moment_in-purged
