use Rattle.sender_inbox.proofs.InboxSteps.{IsKept-same}
use Rattle.sender_inbox.proofs.inbox.Inbox.reserve.Goals as goal

pub invariant_of-self : goal.invariant_of-self
invariant_of-self c = IsKept-same c.self.inside.origin c.self.inside.arrived.items c.self.inside.finished c.reserve.new.self c.self.inside.greatest c.self.inside.from c.reserve.ensures.edges c.self.invariant
