use Rattle.subquery_snapshots.proofs.UpToDate.{distinct_rising, up_to_date_shown}
use Rattle.subquery_snapshots.proofs.laws.subquery_laws.Goals as goal

pub returns-clause-distinct : goal.returns-clause-distinct
returns-clause-distinct c = distinct_rising

pub returns-clause-up_to_date : goal.returns-clause-up_to_date
returns-clause-up_to_date c = up_to_date_shown
