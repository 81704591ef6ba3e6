use Rattle.std.proofs.Common.{◌≡◌, suc, ◌-◌, reverse, sym, ap, ◌∙◌, arith}
use Rattle.deferred_queue.specs.Streams.{at_position}
use Rattle.deferred_queue.proofs.Positions.{at_position-0, at_position-reverse}
use Rattle.deferred_queue.proofs.stream.Stream.entry.Goals as goal

pub returns-then-position-eq0 : goal.returns-then-position-eq0
returns-then-position-eq0 c = rw c.if-position-eq0.true (sym (at_position-0 c.args.self.now.kept.entries))

pub returns : goal.returns
returns c =
    let entries = c.self.inside.entries.items in
    let next : suc (c.args.position - 1) ≡ c.args.position = omega (arith, c.if-position-eq0.false) in
    let found = rw c.deref.ensures.value at c.entry_at.ensures in
    rw (← c.self.view_is) (found ∙ sym (at_position-reverse entries (c.args.position - 1)) ∙ ap (λ p. at_position p (reverse entries)) next)
