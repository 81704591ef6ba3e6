use Rattle.std.proofs.Common.{sym}
use Rattle.site_outbox.proofs.Joined.{marks-joined}
use Rattle.site_outbox.proofs.outbox.Outbox.queue.Goals as goal

pub returns-clause-marks : goal.returns-clause-marks
returns-clause-marks c = rw (← c.self.view_is) (sym (marks-joined c.self.inside.outlets.items c.self.inside.queue.marks c.self.invariant.marked))
