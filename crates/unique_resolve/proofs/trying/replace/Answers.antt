use Rattle.unique_resolve.proofs.Tries.{set_back}
use Rattle.unique_resolve.proofs.trying.replace.Goals as goal

pub returns-clause-before : goal.returns-clause-before
returns-clause-before c =
    let is = rw c.values.ensures.value at c.index-values-place.is in
    rw c.set.ensures (set_back c.args.row.now c.args.place c.args.value c.index-values-place.result is)
