use Rattle.sender_inbox.proofs.InboxSteps.{IsKept-new}
use Rattle.sender_inbox.proofs.inbox.Inbox.make.Goals as goal

pub invariant_of-result : goal.invariant_of-result
invariant_of-result c = rw c.new.ensures.items (IsKept-new _ _ c.make.ensures)
