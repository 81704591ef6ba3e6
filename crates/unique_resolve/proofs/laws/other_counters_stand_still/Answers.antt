use Rattle.unique_resolve.proofs.RisingCounters.{other_counters_stand_still}
use Rattle.unique_resolve.proofs.laws.other_counters_stand_still.Goals as goal

pub returns : goal.returns
returns c = other_counters_stand_still
