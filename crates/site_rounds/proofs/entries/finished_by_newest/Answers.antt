-- Entry by entry.
use Rattle.std.proofs.Common.{arith}
use Rattle.site_rounds.proofs.Growing.{finished_more, finished-within}
use Rattle.site_rounds.proofs.entries.finished_by_newest.Goals as goal

pub with_entry-finished-requires-clause-done : goal.with_entry-finished-requires-clause-done
with_entry-finished-requires-clause-done g c =
    omega (arith, (finished-within (g.J.Journalled.told_of c.args.site.now).journal c.loop-behind.behind c.loop-behind.finished c.loop-behind.invariant).0, c.loop-behind-test.true, c.ranges.count.fits)

pub with_entry-finished-requires-clause-errors : goal.with_entry-finished-requires-clause-errors
with_entry-finished-requires-clause-errors g c =
    omega (arith, (finished-within (g.J.Journalled.told_of c.args.site.now).journal c.loop-behind.behind c.loop-behind.finished c.loop-behind.invariant).1, c.loop-behind-test.true, c.ranges.count.fits)

pub loop-behind-preserved : goal.loop-behind-preserved
loop-behind-preserved g c =
    finished_more (g.J.Journalled.told_of c.args.site.now).journal _ c.loop-behind.behind c.entry_behind.result.now c.entry_behind.ensures c.loop-behind.finished c.loop-behind.invariant
    c.with_entry-finished.result c.with_entry-finished.ensures.done c.with_entry-finished.ensures.errors
