use Rattle.std.specs.Bool.{one_answer}
use Rattle.rep_schema.proofs.ValuesAt.{are_same-Decides}
use Rattle.page_cases.proofs.up_to_date.is_same.Goals as goal

pub returns : goal.returns
returns c =
    let same = rw c.values.ensures.value at c.same_values.ensures in
    one_answer _ _ same (are_same-Decides c.args.values.now c.args.key.now)
