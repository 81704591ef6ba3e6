use Rattle.site_engine.proofs.Beginning.{outcomes_hold}
use Rattle.site_engine.proofs.laws.outcomes_hold_where_rows_are_as_they_were.Goals as goal

pub returns : goal.returns
returns c = outcomes_hold
