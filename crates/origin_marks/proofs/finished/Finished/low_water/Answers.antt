use Rattle.origin_marks.proofs.Low.{low_mark, low_start}
use Rattle.origin_marks.proofs.finished.Finished.low_water.Goals as goal

pub returns-then-lowest-eq0 : goal.returns-then-lowest-eq0
returns-then-lowest-eq0 c =
    let two = rw c.as_slice.ensures at c.in-len2-up.len_at_least in
    let lowest = rw c.as_slice.ensures at c.if-lowest-eq0.true in
    rw (← c.self.view_is, c.as_slice.ensures) (low_mark _ c.self.invariant.falling two lowest)

pub returns-else-lowest-eq0 : goal.returns-else-lowest-eq0
returns-else-lowest-eq0 c =
    let two = rw c.as_slice.ensures at c.in-len2-up.len_at_least in
    let lowest = rw c.as_slice.ensures at c.if-lowest-eq0.false in
    rw (← c.self.view_is) (low_start _ c.self.invariant.falling two lowest)
