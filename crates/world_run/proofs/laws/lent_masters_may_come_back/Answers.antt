-- The law of masters that are lent out.
use Rattle.world_run.proofs.Lent.{lent_masters_may_come_back}
use Rattle.world_run.proofs.laws.lent_masters_may_come_back.Goals as goal

pub returns : goal.returns
returns c = lent_masters_may_come_back
