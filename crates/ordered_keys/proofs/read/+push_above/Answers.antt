use Rattle.std.proofs.Common.{sym}
use Rattle.std.proofs.lemmas.List.{append-nil}
use Rattle.ordered_keys.proofs.Bounds.{none_above}
use Rattle.ordered_keys.proofs.read.+push_above.Goals as goal

pub returns-then-deref-mark : goal.returns-then-deref-mark
returns-then-deref-mark g t c =
    let summed = rw c.in-Fork.is at c.requires in
    let none = none_above g.E.Noted.moment c.args.mark c.in-Fork.root.value.sum.last _ summed.0.last (rw c.deref.ensures at c.if-deref-mark.true) in
    rw (c.in-Fork.is, none) (sym (append-nil c.args.keys.now))
