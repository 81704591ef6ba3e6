use Rattle.std.proofs.Common.{◌<◌, arith, rules}
use Rattle.ordered_keys.specs.Trees.{entries}
use Rattle.ordered_keys.proofs.Sides.{set-front, set-middle, set-behind}
use Rattle.ordered_keys.proofs.change.+changed.Goals as goal

pub returns-then-place-before-clause-entries : goal.returns-then-place-before-clause-entries
returns-then-place-before-clause-entries g t c =
    let front = set-front c.in-Fork.root.value.entry (entries c.replace-right.result) (entries c.replace-left.result) c.sum-before.result.len c.args.place c.args.entry c.sum-before.ensures.number c.if-place-before.true in
    search rules

pub returns-then-place-before-2-clause-entries : goal.returns-then-place-before-2-clause-entries
returns-then-place-before-2-clause-entries g t c =
    let here = set-middle c.in-Fork.root.value.entry (entries c.replace-right.result) (entries c.replace-left.result) c.sum-before.result.len c.args.entry c.sum-before.ensures.number in
    search rules

pub returns-else-place-before-2-clause-entries : goal.returns-else-place-before-2-clause-entries
returns-else-place-before-2-clause-entries g t c =
    let past : c.sum-before.result.len < c.args.place = omega (arith, c.if-place-before.false, c.if-place-before-2.false) in
    let behind = set-behind c.in-Fork.root.value.entry (entries c.replace-right.result) (entries c.replace-left.result) c.sum-before.result.len c.args.place c.args.entry c.sum-before.ensures.number past in
    search rules
