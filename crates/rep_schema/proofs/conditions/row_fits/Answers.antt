-- The test of a row computes what it means.
use Rattle.rep_schema.proofs.FittingTests.{row_test, same_test}
use Rattle.rep_schema.proofs.conditions.row_fits.Goals as goal

pub returns-clause-value : goal.returns-clause-value
returns-clause-value c = same_test _ _ c.fits_each.ensures (row_test c.args.columns.now c.args.row.now)
