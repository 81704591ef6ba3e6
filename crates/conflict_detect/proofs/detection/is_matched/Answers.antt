-- The columns of a group that is named are lent, those of the shadow group are made.
use Rattle.rep_schema.proofs.GroupShapes.{group_columns_of-named}
use Rattle.conflict_detect.proofs.detection.is_matched.Goals as goal

pub returns-then-part : goal.returns-then-part
returns-then-part c = rw (c.as_slice.ensures, c.group_columns-columns.ensures) at c.has_old_values.ensures

pub returns : goal.returns
returns c =
    let named = rw (c.named_columns-columns.ensures, c.groups_of.ensures) at c.has_old_values-2.ensures in
    rw (group_columns_of-named c.args.schema.now c.args.table c.args.part.now.group c.if-part.false) named
