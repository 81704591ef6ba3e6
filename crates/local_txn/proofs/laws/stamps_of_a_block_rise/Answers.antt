use Rattle.local_txn.proofs.RisingStamps.{block_rises}
use Rattle.local_txn.proofs.laws.stamps_of_a_block_rise.Goals as goal

pub returns : goal.returns
returns c schema here stamps statements tables effect shape are gives = block_rises schema here shape stamps statements tables effect are gives
