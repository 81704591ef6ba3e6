use Rattle.unique_resolve.proofs.Settlements.{RowFits-settled, key_of-settled, IsUniqueRow-settled}
use Rattle.unique_resolve.proofs.laws.settled_rows_can_be_put.Goals as goal

pub returns : goal.returns
returns c schema tables numbers origin table inserting row after can fit = record {
  fits = RowFits-settled schema tables numbers origin table inserting row after fit can.shape can.fits can.counters;
  key = key_of-settled schema tables numbers origin table inserting row after fit can.shape can.fits can.counters;
  unique = IsUniqueRow-settled schema tables numbers origin table inserting row after fit can.shape can.fits can.counters can.are can.of_table;
}
