use Rattle.rep_schema.proofs.GroupShapes.{group_columns_of-named}
use Rattle.conflict_detect.proofs.change_call.part_between.Goals as goal

pub returns : goal.returns
returns c =
    let named = rw (c.named_columns-columns.ensures, c.groups_of.ensures) at c.part_at-2.ensures in
    rw (group_columns_of-named c.args.schema.now c.args.table c.args.group c.if-group-eq-SHADOW.false) named
