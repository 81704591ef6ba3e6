use Rattle.std.proofs.Common.{get_or}
use Rattle.origin_marks.proofs.Highest.{highest_at}
use Rattle.origin_marks.proofs.finished.Finished.highest.Goals as goal

pub returns-in-len1-up : goal.returns-in-len1-up
returns-in-len1-up c =
    let one = rw c.as_slice.ensures at c.in-len1-up.len_at_least in
    rw (← c.self.view_is, c.as_slice.ensures) (highest_at _ one c.self.invariant)
