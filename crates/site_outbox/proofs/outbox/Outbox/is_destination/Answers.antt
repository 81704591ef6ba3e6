use Rattle.std.proofs.Common.{sym}
use Rattle.site_outbox.proofs.Joined.{is_some-destination_of}
use Rattle.site_outbox.proofs.outbox.Outbox.is_destination.Goals as goal

pub returns : goal.returns
returns c = rw (← c.self.view_is, c.is_among.ensures, c.deref.ensures.value) (sym (is_some-destination_of c.args.site.now c.self.inside.outlets.items c.self.inside.queue.marks))
