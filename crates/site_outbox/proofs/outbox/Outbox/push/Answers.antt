use Rattle.std.proofs.Common.{◌+◌, ◌<◌, ◌^◌, Some, length, sym, ◌∙◌, arith}
use Rattle.site_outbox.specs.DestinationEntries.{with_marks}
use Rattle.site_outbox.proofs.Joined.{marks-joined, entries_apart}
use Rattle.site_outbox.proofs.Places.{AreApart-sent_to, can_be_sent}
use Rattle.site_outbox.proofs.OutboxSteps.{streams_in, can_be_noted, notes_sent_to, IsOutbox-pushed, Keeps-pushed}
use Rattle.site_outbox.proofs.outbox.Outbox.push.Goals as goal

pub note_each-requires-clause-apart : goal.note_each-requires-clause-apart
note_each-requires-clause-apart c = rw c.deref.ensures.value (entries_apart c.self.inside.outlets.items c.self.inside.queue.marks c.self.invariant.apart)

pub note_each-requires-clause-waiting : goal.note_each-requires-clause-waiting
note_each-requires-clause-waiting c =
    let inside = c.self.inside in
    let below : inside.count + 1 < 2 ^ 64 = omega (arith, c.self.ranges) in
    rw c.deref.ensures.value
    (can_be_noted inside.outlets.items inside.queue.marks inside.queue.deferred inside.index.streams c.reserve.new.self.streams inside.count inside.purged (length c.in_ok-tokens.tokens.list) below
    c.reserve.ensures.noted c.reserve.ensures.destinations c.in_ok-reserve.ensures.ok c.self.invariant)

pub note_each-requires-clause-noted : goal.note_each-requires-clause-noted
note_each-requires-clause-noted c = (streams_in c.self.invariant, λ site. c.reserve.ensures.noted site (c.self.invariant.streams site).stream (c.self.invariant.streams site).is)

pub push_back-number-requires-clause-destinations : goal.push_back-number-requires-clause-destinations
push_back-number-requires-clause-destinations c =
    let inside = c.self.inside in
    let tokens = c.in_ok-tokens.tokens.list in
    let streams = streams_in c.self.invariant in
    let ds = with_marks inside.outlets.items inside.queue.marks in
    let notes = rw c.deref.ensures.value at (c.note_each.ensures.notes streams (λ site. c.reserve.ensures.noted site (streams site) (c.self.invariant.streams site).is)) in
    let marks = marks-joined inside.outlets.items inside.queue.marks c.self.invariant.marked ∙ sym c.reserve-2.ensures.marks in
    rw (c.deref-2.ensures.value, notes_sent_to inside.outlets.items inside.queue.marks tokens streams c.note_each.new.index.streams c.note_each.new.to.items c.self.invariant.apart notes)
    (can_be_sent tokens streams c.reserve-2.new.self ds marks (λ site. rw c.reserve-2.ensures.deferred (c.self.invariant.streams site).long) c.self.invariant.apart)

pub push_back-number-requires-clause-apart : goal.push_back-number-requires-clause-apart
push_back-number-requires-clause-apart c =
    let inside = c.self.inside in
    let tokens = c.in_ok-tokens.tokens.list in
    let streams = streams_in c.self.invariant in
    let notes = rw c.deref.ensures.value at (c.note_each.ensures.notes streams (λ site. c.reserve.ensures.noted site (streams site) (c.self.invariant.streams site).is)) in
    rw (c.deref-2.ensures.value, notes_sent_to inside.outlets.items inside.queue.marks tokens streams c.note_each.new.index.streams c.note_each.new.to.items c.self.invariant.apart notes)
    (AreApart-sent_to tokens streams (with_marks inside.outlets.items inside.queue.marks) c.self.invariant.apart)

pub invariant_of-self-2 : goal.invariant_of-self-2
invariant_of-self-2 c =
    let inside = c.self.inside in
    let tokens = c.in_ok-tokens.tokens.list in
    let streams = streams_in c.self.invariant in
    let notes = rw c.deref.ensures.value at (c.note_each.ensures.notes streams (λ site. c.reserve.ensures.noted site (streams site) (c.self.invariant.streams site).is)) in
    rw (c.push_back-number.ensures.marks, c.push_back-number.ensures.deferred, c.push_back-number.ensures.number, c.reserve-2.ensures.marks, c.reserve-2.ensures.deferred, c.deref-2.ensures.value, c.self.invariant.counted)
    (IsOutbox-pushed inside.outlets.items inside.queue.marks inside.queue.deferred inside.index.streams c.note_each.new.index.streams inside.count inside.purged tokens streams (Some (record { txn = c.args.txn; past = c.args.past }))
    c.note_each.new.to.items (c.note_each.ensures.destinations ∙ c.reserve.ensures.destinations) (λ site. (c.self.invariant.streams site).long) notes c.self.invariant)

pub returns-clause-ok : goal.returns-clause-ok
returns-clause-ok c =
    let inside = c.self.inside in
    let notes = rw (c.in_ok-tokens.ensures, c.deref.ensures.value) at c.note_each.ensures.notes in
    rw (← c.self.view_is, c.push_back-number.ensures.marks, c.push_back-number.ensures.deferred, c.reserve-2.ensures.marks, c.reserve-2.ensures.deferred, c.deref-2.ensures.value)
    (λ pasts txns keeps. Keeps-pushed c.args.schema.now c.args.past pasts c.args.txn txns inside.outlets.items inside.queue.marks inside.purged inside.queue.deferred inside.index.streams c.note_each.new.index.streams c.note_each.new.to.items
    c.self.invariant.marked c.self.invariant.apart (λ S are. notes S (λ site. c.reserve.ensures.noted site (S site) (are site))) keeps)
