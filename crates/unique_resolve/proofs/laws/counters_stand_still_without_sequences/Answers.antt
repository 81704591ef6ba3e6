use Rattle.unique_resolve.proofs.RisingCounters.{counters_stand_still_without_sequences}
use Rattle.unique_resolve.proofs.laws.counters_stand_still_without_sequences.Goals as goal

pub returns : goal.returns
returns c = counters_stand_still_without_sequences
