use Rattle.rep_schema.proofs.GroupShapes.{group_columns_of-shadow, group_columns_of-named}
use Rattle.rep_schema.proofs.groups.same_in_group.Goals as goal

pub returns-then-group-eq-SHADOW : goal.returns-then-group-eq-SHADOW
returns-then-group-eq-SHADOW c =
    let same = rw (c.as_slice.ensures, c.shadow_columns-shadow.ensures, c.groups_of-groups.ensures, c.columns_of.ensures) at c.same_values_at.ensures in
    rw (c.if-group-eq-SHADOW.true, group_columns_of-shadow c.args.schema.now c.args.table) same

pub returns-else-group-eq-SHADOW : goal.returns-else-group-eq-SHADOW
returns-else-group-eq-SHADOW c =
    let same = rw (c.named_columns.ensures, c.groups_of-groups.ensures) at c.same_values_at-else-group-eq-SHADOW.ensures in
    rw (group_columns_of-named c.args.schema.now c.args.table c.args.group c.if-group-eq-SHADOW.false) same
