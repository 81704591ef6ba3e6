use Rattle.std.specs.Bool.{one_answer}
use Rattle.rep_schema.proofs.ValuesAt.{are_same-Decides}
use Rattle.txn_apply.proofs.call.is_same_row.Goals as goal

-- two tests of one fact give one answer
pub returns : goal.returns
returns c =
    let same = rw (c.values.ensures.value, c.values-2.ensures.value) at c.same_values.ensures in
    one_answer _ _ same (are_same-Decides c.args.found.now c.args.row.now)
