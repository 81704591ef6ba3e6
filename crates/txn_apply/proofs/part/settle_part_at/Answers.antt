-- Settling a part.
use Rattle.std.proofs.Common.{◌<◌, length, refl, sym, ◌∙◌, subst}
use Rattle.std.specs.List.{AllByRecursion}
use Rattle.txn_apply.proofs.GroupsInRange.{group_columns_of-within, settled_part-keep}
use Rattle.txn_apply.proofs.part.settle_part_at.Goals as goal

pub set_values-requires : goal.set_values-requires
set_values-requires c = subst (AllByRecursion (λ place. place < length c.args.row.now)) (sym c.requires.columns)
    (group_columns_of-within c.args.schema.now c.requires.shape c.args.table c.args.part.now.group c.args.row.now c.requires.row)

pub set_values-requires-in-TakeNumber : goal.set_values-requires-in-TakeNumber
set_values-requires-in-TakeNumber c = subst (AllByRecursion (λ place. place < length c.args.row.now)) (sym c.requires.columns)
    (group_columns_of-within c.args.schema.now c.requires.shape c.args.table c.args.part.now.group c.args.row.now c.requires.row)

pub returns-in-Keep-clause-ok : goal.returns-in-Keep-clause-ok
returns-in-Keep-clause-ok c = settled_part-keep c.args.schema.now c.requires.shape c.args.table c.args.part.now.group c.args.row.now c.requires.row c.args.part.now refl (sym c.decision_for.ensures ∙ c.in-Keep.is)
