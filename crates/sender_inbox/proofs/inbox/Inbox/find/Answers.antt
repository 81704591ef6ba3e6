use Rattle.sender_inbox.proofs.inbox.Inbox.find.Goals as goal

pub find-requires : goal.find-requires
find-requires c = rw c.deref.ensures.value c.self.invariant.inbox.rising
