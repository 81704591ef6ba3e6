use Rattle.std.proofs.Common.{◌∙◌}
use Rattle.rep_schema.proofs.GroupShapes.{group_columns_of-shadow, group_columns_of-named}
use Rattle.rep_schema.proofs.groups.group_columns.Goals as goal

pub returns-then-group-eq-SHADOW : goal.returns-then-group-eq-SHADOW
returns-then-group-eq-SHADOW c =
    rw (c.if-group-eq-SHADOW.true, group_columns_of-shadow c.args.schema.now c.args.table)
    (c.of_shadow.ensures ∙ c.shadow_columns.ensures ∙ rw (c.groups_of.ensures, c.columns_of.ensures))

pub returns-else-group-eq-SHADOW : goal.returns-else-group-eq-SHADOW
returns-else-group-eq-SHADOW c =
    rw (group_columns_of-named c.args.schema.now c.args.table c.args.group c.if-group-eq-SHADOW.false)
    (c.of_named.ensures ∙ c.named_columns.ensures ∙ rw c.groups_of-else-group-eq-SHADOW.ensures)
