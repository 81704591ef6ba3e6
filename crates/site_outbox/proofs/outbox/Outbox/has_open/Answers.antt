use Rattle.std.proofs.Common.{sym}
use Rattle.site_outbox.proofs.Joined.{is_open-joined}
use Rattle.site_outbox.proofs.outbox.Outbox.has_open.Goals as goal

pub returns : goal.returns
returns c = rw (← c.self.view_is, c.has_open.ensures, c.deref.ensures.value) (sym (is_open-joined c.self.inside.outlets.items c.self.inside.queue.marks))
