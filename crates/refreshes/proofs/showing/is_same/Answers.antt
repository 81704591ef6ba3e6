use Rattle.std.specs.Bool.{one_answer}
use Rattle.rep_schema.proofs.ValuesAt.{are_same-Decides}
use Rattle.refreshes.proofs.showing.is_same.Goals as goal

pub returns : goal.returns
returns c =
    let same = rw (c.values.ensures.value, c.values-2.ensures.value) at c.same_values.ensures in
    one_answer _ _ same (are_same-Decides c.args.key.now c.args.other.now)
