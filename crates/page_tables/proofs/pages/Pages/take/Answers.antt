use Rattle.std.proofs.Common.{length, sym, ap, ◌∙◌, arith}
use Rattle.std.specs.Option.{is_some}
use Rattle.page_tables.specs.Pages.{page_values}
use Rattle.page_tables.proofs.InIndex.{length-take_found, length-take_none}
use Rattle.page_tables.proofs.pages.Pages.take.Goals as goal

pub invariant_of-self : goal.invariant_of-self
invariant_of-self g c =
    let shorter = length-take_found (g.S.Sought.at c.args.sought.now) (page_values c.self.inside.directory.pages.items) (ap is_some (sym c.take_out-taken.ensures.taken) ∙ sym c.if-is_some.ensures) in
    let slots = ap length c.take_out-taken.ensures.slots in
    (c.take_out-taken.ensures.whole, omega (arith, shorter, slots, c.self.invariant.1))

pub invariant_of-self-else-is_some : goal.invariant_of-self-else-is_some
invariant_of-self-else-is_some g c =
    let same = length-take_none (g.S.Sought.at c.args.sought.now) (page_values c.self.inside.directory.pages.items) (ap is_some (sym c.take_out-taken.ensures.taken) ∙ sym c.if-is_some.ensures) in
    let slots = ap length c.take_out-taken.ensures.slots in
    (c.take_out-taken.ensures.whole, omega (arith, same, slots, c.self.invariant.1))
