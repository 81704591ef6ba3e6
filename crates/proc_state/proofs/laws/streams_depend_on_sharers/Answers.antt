-- The laws of streams.
use Rattle.proc_state.proofs.Depending.{streams_depend_on_sharers, streams_arrive_well_numbered}
use Rattle.proc_state.proofs.laws.streams_depend_on_sharers.Goals as goal

pub returns-clause-depend : goal.returns-clause-depend
returns-clause-depend c = streams_depend_on_sharers

pub returns-clause-numbered : goal.returns-clause-numbered
returns-clause-numbered c = streams_arrive_well_numbered
