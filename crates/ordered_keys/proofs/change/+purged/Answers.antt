use Rattle.std.proofs.Common.{sym}
use Rattle.ordered_keys.proofs.Bounds.{all_above}
use Rattle.ordered_keys.proofs.change.+purged.Goals as goal

pub returns-then-mark-deref-clause-entries : goal.returns-then-mark-deref-clause-entries
returns-then-mark-deref-clause-entries g t c =
    let summed = rw c.in-Fork.is at c.requires.summed in
    rw c.in-Fork.is (sym (all_above g.E.Noted.moment c.args.mark c.in-Fork.root.value.sum.first _ summed.0.first (rw c.deref.ensures at c.if-mark-deref.true)))
