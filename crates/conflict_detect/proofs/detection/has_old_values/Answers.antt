use Rattle.std.specs.Bool.{one_answer}
use Rattle.rep_schema.specs.Groups.{values_at}
use Rattle.rep_schema.proofs.ValuesAt.{are_same-Decides}
use Rattle.conflict_detect.proofs.detection.has_old_values.Goals as goal

pub returns : goal.returns
returns c =
    let matched = rw c.as_slice.ensures at c.has_values.ensures in
    one_answer _ _ matched (are_same-Decides (values_at c.args.places.now c.args.row.now) c.args.part.now.old)
