use Rattle.std.specs.Bool.{one_answer}
use Rattle.rep_schema.proofs.ValuesAt.{are_same-Decides}
use Rattle.refreshes.proofs.showing.are_same.Goals as goal

pub returns-in-Some-Some : goal.returns-in-Some-Some
returns-in-Some-Some c =
    let same = rw (c.values.ensures.value, c.values-in-Some-Some.ensures.value) at c.same_values.ensures in
    rw (c.in-Some-Some.is-0, c.in-Some-Some.is-1) (one_answer _ _ same (are_same-Decides c.in-Some-Some.a.now c.in-Some-Some.b.now))
