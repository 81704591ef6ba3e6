use Rattle.sender_inbox.proofs.inbox.Inbox.first_above.Goals as goal

pub first_above-requires : goal.first_above-requires
first_above-requires c = rw c.deref.ensures.value c.self.invariant.inbox.rising
