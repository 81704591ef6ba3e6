-- What a script prints tells the turns of its live part.
use Rattle.world_run.proofs.LivePrinted.{printed_turns_are_known}
use Rattle.world_run.proofs.part_laws.printed_turns_are_known.Goals as goal

pub returns : goal.returns
returns c = printed_turns_are_known c.printed_parts_are_known.ensures
