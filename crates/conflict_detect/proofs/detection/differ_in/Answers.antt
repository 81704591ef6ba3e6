use Rattle.std.proofs.Common.{ap}
use Rattle.std.specs.Prelude.{not}
use Rattle.std.specs.Bool.{one_answer}
use Rattle.rep_schema.specs.Groups.{group_values}
use Rattle.rep_schema.proofs.ValuesAt.{are_same-Decides}
use Rattle.conflict_detect.proofs.detection.differ_in.Goals as goal

pub returns : goal.returns
returns c =
    let old = group_values c.args.schema.now c.args.table c.args.group c.args.a.now in
    let new = group_values c.args.schema.now c.args.table c.args.group c.args.b.now in
    ap not (one_answer _ _ c.same_in_group.ensures (are_same-Decides old new))
