use Rattle.unique_resolve.proofs.Settlements.{IsLengthened-settled}
use Rattle.unique_resolve.proofs.laws.settled_texts_grow.Goals as goal

pub returns : goal.returns
returns c schema tables numbers origin table inserting row after can fit = IsLengthened-settled schema tables numbers origin table inserting row after fit can.shape can.fits can.counters
