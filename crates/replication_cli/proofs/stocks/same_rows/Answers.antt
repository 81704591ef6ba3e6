use Rattle.replication_cli.proofs.SameRows.{same_rows_by}
use Rattle.replication_cli.proofs.stocks.same_rows.Goals as goal

-- a test that tells whether the rows are the same is the test of the rows
pub returns : goal.returns
returns g c = same_rows_by c.have_same_rows.result _ _ c.have_same_rows.ensures
