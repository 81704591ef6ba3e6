use Rattle.unique_resolve.proofs.RisingCounters.{counters_never_fall}
use Rattle.unique_resolve.proofs.laws.counters_never_fall.Goals as goal

pub returns : goal.returns
returns c = counters_never_fall
