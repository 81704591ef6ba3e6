-- The laws of what all full runs have in common.
use Rattle.live_laws.proofs.FullRuns.{full_runs_finish_the_same}
use Rattle.live_laws.proofs.RunCounts.{full_runs_are_equally_long}
use Rattle.live_laws.proofs.RisingNumbers.{every_site_has_rising_numbers}
use Rattle.live_laws.proofs.laws.full_runs_finish_the_same.Goals as goal

pub returns-clause-same : goal.returns-clause-same
returns-clause-same c = full_runs_finish_the_same

pub returns-clause-length : goal.returns-clause-length
returns-clause-length c = full_runs_are_equally_long

pub returns-clause-everywhere : goal.returns-clause-everywhere
returns-clause-everywhere c = every_site_has_rising_numbers
