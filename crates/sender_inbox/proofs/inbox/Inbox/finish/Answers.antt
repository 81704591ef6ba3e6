use Rattle.sender_inbox.proofs.InboxSteps.{from_one-found, IsKept-more}
use Rattle.sender_inbox.proofs.inbox.Inbox.finish.Goals as goal

pub number_at-number-requires : goal.number_at-number-requires
number_at-number-requires c = rw c.deref.ensures.value c.self.invariant.inbox.rising

-- what arrived stands at a position from 1
pub finish-requires-clause-from_one : goal.finish-requires-clause-from_one
finish-requires-clause-from_one c = from_one-found c.self.inside.arrived.items c.args.position c.self.invariant.inbox.from_one (rw (← c.self.view_is) at c.requires.arrived)

pub invariant_of-self : goal.invariant_of-self
invariant_of-self c =
    let number = rw c.deref.ensures.value at c.number_at-number.ensures in
    let kept = IsKept-more c.self.inside.origin c.self.inside.arrived.items c.self.inside.finished c.finish.new.self c.self.inside.greatest c.self.inside.from c.number_at-number.result c.args.position (rw (← c.self.view_is) at c.requires.arrived) c.finish.ensures.finished number c.self.invariant in
    rw c.max-self-inside.ensures kept
