use Rattle.std.proofs.Common.{◌<◌, ◌≤◌, length, sym, ◌∙◌, arith}
use Rattle.error_queue.proofs.Counts.{in_order-here, in_order-behind}
use Rattle.error_queue.proofs.errors.entry_at.Goals as goal

pub returns-then-left-len : goal.returns-then-left-len
returns-then-left-len c =
    let h = c.list-item.result in
    let below : c.loop-list.left < length h.list.entries = omega (arith, c.if-left-len.true, c.len.ensures) in
    let here = in_order-here c.args.lists.now c.loop-list.list-index c.loop-list.left h c.loop-list-test.true c.list-item.is below in
    c.at.ensures ∙ sym (c.loop-list.invariant ∙ here)

pub loop-list-preserved : goal.loop-list-preserved
loop-list-preserved c =
    let h = c.list-item.result in
    let behind : length h.list.entries ≤ c.loop-list.left = omega (arith, c.if-left-len.false, c.len.ensures) in
    rw c.len-left.ensures (c.loop-list.invariant ∙ in_order-behind c.args.lists.now c.loop-list.list-index c.loop-list.left h c.loop-list-test.true c.list-item.is behind)
