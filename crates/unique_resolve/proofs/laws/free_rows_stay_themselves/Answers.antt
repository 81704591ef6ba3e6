use Rattle.unique_resolve.proofs.FreeSettlements.{settlement_of-free}
use Rattle.unique_resolve.proofs.laws.free_rows_stay_themselves.Goals as goal

pub returns : goal.returns
returns c schema tables numbers origin table inserting row can unique new =
    settlement_of-free schema tables origin numbers table row can.of_table can.are can.fits unique inserting new
