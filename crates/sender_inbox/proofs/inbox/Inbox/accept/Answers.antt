use Rattle.sender_inbox.proofs.InboxSteps.{IsKept-put}
use Rattle.sender_inbox.proofs.inbox.Inbox.accept.Goals as goal

pub put_in-requires-clause-rising : goal.put_in-requires-clause-rising
put_in-requires-clause-rising c = c.self.invariant.inbox.rising

pub rising_with-from-requires-clause-rising : goal.rising_with-from-requires-clause-rising
rising_with-from-requires-clause-rising c = rw c.deref.ensures.value c.self.invariant.inbox.rising

pub rising_with-from-requires-clause-absent : goal.rising_with-from-requires-clause-absent
rising_with-from-requires-clause-absent c = let absent = rw (← c.self.view_is) at c.requires.absent in rw c.deref.ensures.value absent

pub rising_with-from-requires-clause-pasts : goal.rising_with-from-requires-clause-pasts
rising_with-from-requires-clause-pasts c = rw c.deref.ensures.value c.self.invariant.pasts

pub invariant_of-self : goal.invariant_of-self
invariant_of-self c = rw c.in_err-put_in.ensures.err c.self.invariant

pub invariant_of-self-2 : goal.invariant_of-self-2
invariant_of-self-2 c =
    let absent = rw (← c.self.view_is) at c.requires.absent in
    let others = rw (← c.self.view_is) at c.requires.others in
    let rise = rw c.deref.ensures.value at c.rising_with-from.ensures in
    rw c.in_ok-put_in.ensures.ok (IsKept-put c.self.inside.origin c.args.arrival c.self.inside.arrived.items c.self.inside.finished c.self.inside.greatest c.self.inside.from c.rising_with-from.result c.requires.earlier others absent rise c.self.invariant)
