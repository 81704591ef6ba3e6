use Rattle.origin_marks.proofs.LowUpTo.{low_water_is_computed}
use Rattle.origin_marks.proofs.laws.low_water_laws.Goals as goal

pub returns-clause-computed : goal.returns-clause-computed
returns-clause-computed c = low_water_is_computed
