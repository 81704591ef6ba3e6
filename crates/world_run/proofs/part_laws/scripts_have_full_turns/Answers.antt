-- The law has its lemma.
use Rattle.world_run.proofs.LiveFull.{some_full}
use Rattle.world_run.proofs.part_laws.scripts_have_full_turns.Goals as goal

pub returns : goal.returns
returns c = some_full
