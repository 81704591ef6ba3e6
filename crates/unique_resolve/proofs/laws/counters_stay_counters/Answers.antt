use Rattle.unique_resolve.proofs.Settlements.{AreCounters-settled}
use Rattle.unique_resolve.proofs.laws.counters_stay_counters.Goals as goal

pub returns : goal.returns
returns c schema tables numbers origin table inserting row counters = AreCounters-settled schema tables numbers origin table inserting row counters
