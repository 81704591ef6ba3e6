-- The columns of a group that is named are lent, those of the shadow group are made.
use Rattle.std.proofs.Common.{refl, ◌∙◌}
use Rattle.rep_schema.proofs.GroupShapes.{group_columns_of-named}
use Rattle.txn_apply.proofs.part.settle_part.Goals as goal

pub settle_part_at-requires-clause-columns : goal.settle_part_at-requires-clause-columns
settle_part_at-requires-clause-columns c = c.as_slice.ensures ∙ c.group_columns-columns.ensures

pub settle_part_at-requires-2-clause-columns : goal.settle_part_at-requires-2-clause-columns
settle_part_at-requires-2-clause-columns c =
    rw (group_columns_of-named c.args.schema.now c.args.table c.args.part.now.group c.if-part.false, c.named_columns-columns.ensures, c.groups_of.ensures) refl
