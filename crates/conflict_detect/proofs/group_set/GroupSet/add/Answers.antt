use Rattle.std.proofs.Common.{◌<◌, length, take, arith}
use Rattle.conflict_detect.proofs.OneMore.{IsPadded-more}
use Rattle.rep_values.specs.Padded.{len-of_front}
use Rattle.conflict_detect.proofs.group_set.GroupSet.add.Goals as goal

-- there is a free cell behind the groups
pub invariant_of-self : goal.invariant_of-self
invariant_of-self c =
    let room : length (take c.self.inside.len c.self.inside.cells) < 33 = rw c.self.view_is c.requires in
    let counted = len-of_front 33 0 c.self.inside.len c.self.inside.cells c.self.invariant in
    IsPadded-more 33 0 c.self.inside.len c.self.inside.cells c.args.group (omega (arith, room, counted)) c.self.invariant
