-- The columns of a group that is named are lent, those of the shadow group are made.
use Rattle.std.proofs.Common.{refl, ◌∙◌}
use Rattle.rep_schema.proofs.GroupShapes.{group_columns_of-named}
use Rattle.local_txn.proofs.filled.choose_modified.Goals as goal

pub choose_differing-requires-clause-columns : goal.choose_differing-requires-clause-columns
choose_differing-requires-clause-columns c = c.as_slice.ensures ∙ c.group_columns-columns.ensures

pub choose_differing-requires-else-group-eq-SHADOW-clause-columns : goal.choose_differing-requires-else-group-eq-SHADOW-clause-columns
choose_differing-requires-else-group-eq-SHADOW-clause-columns c =
    rw (group_columns_of-named c.args.schema.now c.args.table c.args.group c.if-group-eq-SHADOW.false, c.named_columns-columns.ensures, c.groups_of.ensures) refl
