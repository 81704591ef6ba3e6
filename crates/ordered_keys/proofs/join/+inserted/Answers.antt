use Rattle.std.proofs.Common.{◌<◌, arith, rules}
use Rattle.ordered_keys.specs.Trees.{entries}
use Rattle.ordered_keys.proofs.Sides.{insert-behind}
use Rattle.ordered_keys.proofs.join.+inserted.Goals as goal

pub returns-else-place-before-clause-entries : goal.returns-else-place-before-clause-entries
returns-else-place-before-clause-entries g t c =
    let past : c.sum-before.result.len < c.args.place = omega (arith, c.if-place-before.false) in
    let more = insert-behind c.in-Fork.root.value.entry (entries c.replace-right.result) (entries c.replace-left.result) c.sum-before.result.len c.args.place c.args.one.value.entry c.sum-before.ensures.number past in
    search rules
