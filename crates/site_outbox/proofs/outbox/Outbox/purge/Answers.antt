use Rattle.std.proofs.Common.{◌≡◌, ◌+◌, ◌≤◌, refl, sym, ap, ◌∙◌, arith}
use Rattle.deferred_queue.specs.Streams.{acked_by}
use Rattle.site_state.specs.Packets.{count_opened}
use Rattle.site_state.specs.Purges.{acknowledged_by_all}
use Rattle.site_outbox.specs.DestinationEntries.{with_marks}
use Rattle.site_outbox.specs.OutboxInvariant.{IsWithin}
use Rattle.site_outbox.proofs.Joined.{marks-joined, with_marks-with_mark, each-with_mark}
use Rattle.site_outbox.proofs.OutboxSteps.{acknowledged_by_all-most, IsOutbox-purged, Keeps-purged}
use Rattle.site_outbox.proofs.outbox.Outbox.purge.Goals as goal

pub acknowledged_by_all-acknowledged-requires : goal.acknowledged_by_all-acknowledged-requires
acknowledged_by_all-acknowledged-requires c =
    let inside = c.self.inside in
    let each = rw (with_marks-with_mark inside.outlets.items inside.queue.marks c.self.invariant.marked c.self.invariant.apart) at c.self.invariant.each in
    rw c.deref.ensures.value
    (each-with_mark (IsWithin inside.count inside.queue.deferred) (λ o. count_opened o.opened + acked_by o.site inside.queue.marks ≤ inside.count) inside.queue.marks inside.outlets.items (λ o within. omega (arith, within.acked, within.last)) each)

-- all destinations are asked for what they have acknowledged
least : (c : goal.After-self-1) → c.acknowledged_by_all-acknowledged.result ≡ acknowledged_by_all c.self.inside.count (with_marks c.self.inside.outlets.items c.self.inside.queue.marks)
least c =
    let inside = c.self.inside in
    c.acknowledged_by_all-acknowledged.ensures
    ∙ rw c.deref.ensures.value (sym (ap (acknowledged_by_all inside.count) (with_marks-with_mark inside.outlets.items inside.queue.marks c.self.invariant.marked c.self.invariant.apart)))

pub invariant_of-self : goal.invariant_of-self
invariant_of-self c =
    let inside = c.self.inside in
    let most : c.acknowledged_by_all-acknowledged.result ≤ inside.count = rw (least c) (acknowledged_by_all-most inside.count (with_marks inside.outlets.items inside.queue.marks)) in
    let within : c.max-self-inside.result ≤ inside.count = omega (arith, most, c.self.invariant.purged_within, c.max-self-inside.ensures) in
    rw (c.purge-self-inside.ensures.marks, c.purge-self-inside.ensures.deferred)
    (IsOutbox-purged inside.outlets.items inside.queue.marks inside.queue.deferred inside.index.streams inside.count inside.purged c.max-self-inside.result within c.self.invariant)

pub returns-clause-purged : goal.returns-clause-purged
returns-clause-purged c = rw (← c.self.view_is, c.max-self-inside.ensures, least c, c.self.invariant.counted) refl

pub returns-clause-keeps : goal.returns-clause-keeps
returns-clause-keeps c =
    let inside = c.self.inside in
    let ds = with_marks inside.outlets.items inside.queue.marks in
    let marks = marks-joined inside.outlets.items inside.queue.marks c.self.invariant.marked in
    rw (← c.self.view_is, c.purge-self-inside.ensures.marks, c.purge-self-inside.ensures.deferred, c.max-self-inside.ensures, least c)
    (λ schema pasts txns keeps. rw marks at (Keeps-purged schema pasts txns ds inside.purged inside.count inside.queue.deferred inside.index.streams c.self.invariant.apart c.self.invariant.counted keeps))
