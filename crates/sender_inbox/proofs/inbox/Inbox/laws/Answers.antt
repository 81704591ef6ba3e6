use Rattle.sender_inbox.proofs.inbox.Inbox.laws.Goals as goal

pub returns : goal.returns
returns c = rw (← c.self.view_is) c.self.invariant.inbox
