use Rattle.std.proofs.Common.{length, ap, arith}
use Rattle.page_tables.specs.Pages.{page_values}
use Rattle.page_tables.proofs.InIndex.{length-entered}
use Rattle.page_tables.proofs.pages.Pages.enter.Goals as goal

pub invariant_of-self : goal.invariant_of-self
invariant_of-self g c =
    let longer = length-entered (g.S.Sought.at c.args.sought.now) c.args.slot (page_values c.self.inside.directory.pages.items) c.enter-found.result c.enter-found.ensures.found c.if-is_none.ensures in
    let slots = ap length c.enter-found.ensures.slots in
    (c.enter-found.ensures.whole, omega (arith, longer, slots, c.self.invariant.1))
