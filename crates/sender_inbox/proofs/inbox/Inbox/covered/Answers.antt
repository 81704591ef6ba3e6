use Rattle.std.proofs.Common.{◌≡◌, ◌==◌, false, refl, arith}
use Rattle.std.proofs.lemmas.Bool.Decides.{nat_tests}
use Rattle.origin_marks.specs.Marks.{finished}
use Rattle.origin_marks.proofs.Marks.{same_mark}
use Rattle.sender_inbox.proofs.inbox.Inbox.covered.Goals as goal

pub returns-then-low-eq0 : goal.returns-then-low-eq0
returns-then-low-eq0 c =
    rw (← c.self.view_is) (λ low is.
    let same : low ≡ 0 = same_mark (finished c.self.inside.finished) low 0 is (rw c.if-low-eq0.true at c.low_water-low.ensures) in
    rw same refl)

pub number_at-requires : goal.number_at-requires
number_at-requires c = rw c.deref.ensures.value c.self.invariant.inbox.rising

pub returns : goal.returns
returns c =
    let mark = c.low_water-low.result in
    let above : (mark == 0) ≡ false = grind (arith, nat_tests, c.if-low-eq0.false) in
    let number = rw c.deref.ensures.value at c.number_at.ensures in
    rw (← c.self.view_is) (λ low is.
    let same : low ≡ mark = same_mark (finished c.self.inside.finished) low mark is c.low_water-low.ensures in
    rw (same, above) number)
