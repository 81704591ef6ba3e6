use Rattle.std.proofs.Common.{refl}
use Rattle.world.proofs.Following.{in_part_none}
use Rattle.world_push.proofs.marks.return_mark.Goals as goal

pub returns-then-not-is_up-clause-part : goal.returns-then-not-is_up-clause-part
returns-then-not-is_up-clause-part c = in_part_none _ _ _ _ refl
