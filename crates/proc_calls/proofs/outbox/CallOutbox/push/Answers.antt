use Rattle.std.proofs.Common.{◌<◌, ◌+◌, ◌^◌, ◌∙◌, Some, [], filter, length, arith}
use Rattle.rep_values.specs.declared.name.SiteName.{SiteName}
use Rattle.deferred_queue.specs.Streams.{in_order}
use Rattle.rep_schema.specs.Sites.{is_among}
use Rattle.proc_state.specs.Carriers.{proc_tokens}
use Rattle.proc_calls.proofs.Queued.{streams_in, can_be_noted, apart_placed, sites_apart, same_sites, ordered, sent, IsOutbox-pushed, lists_in-pushed, Keeps-pushed}
use Rattle.proc_calls.proofs.outbox.CallOutbox.push.Goals as goal

pub note_each-requires-clause-apart : goal.note_each-requires-clause-apart
note_each-requires-clause-apart c =
    let s = c.self.inside in
    rw (c.deref-2.ensures.value, c.in_ok-sites.ensures, c.deref.ensures.value) (sites_apart s.masters.items s.queue.marks s.queue.deferred s.index.streams s.index.streams s.count c.self.invariant c.args.to.now)

pub note_each-requires-clause-waiting : goal.note_each-requires-clause-waiting
note_each-requires-clause-waiting c =
    let inside = c.self.inside in
    let below : inside.count + 1 < 2 ^ 64 = omega (arith, c.self.ranges) in
    rw (c.deref-2.ensures.value, c.in_ok-sites.ensures, c.deref.ensures.value)
    (can_be_noted inside.masters.items inside.queue.marks inside.queue.deferred inside.index.streams c.reserve.new.self.streams inside.count (length c.in_ok-tokens.tokens.list) below
    c.reserve.ensures.noted c.reserve.ensures.destinations c.in_ok-reserve.ensures.ok c.self.invariant (is_among c.args.to.now))

pub note_each-requires-clause-noted : goal.note_each-requires-clause-noted
note_each-requires-clause-noted c = (streams_in c.self.invariant, λ site. c.reserve.ensures.noted site (c.self.invariant.streams site).stream (c.self.invariant.streams site).is)

pub push_back-number-requires-clause-destinations : goal.push_back-number-requires-clause-destinations
push_back-number-requires-clause-destinations c =
    let s = c.self.inside in
    let streams = streams_in c.self.invariant in
    let listed = rw (c.deref-2.ensures.value, c.in_ok-sites.ensures, c.deref.ensures.value) at (c.note_each.ensures.list streams (λ site. c.reserve.ensures.noted site (streams site) (c.self.invariant.streams site).is)) in
    rw (c.deref-3.ensures.value, listed)
    (sent s.masters.items s.queue.marks s.queue.deferred s.index.streams s.index.streams s.count c.self.invariant c.args.to.now c.reserve-2.new.self c.reserve-2.ensures.marks c.reserve-2.ensures.deferred c.in_ok-tokens.tokens.list)

pub push_back-number-requires-clause-apart : goal.push_back-number-requires-clause-apart
push_back-number-requires-clause-apart c =
    let s = c.self.inside in
    let streams = streams_in c.self.invariant in
    let listed = rw (c.deref-2.ensures.value, c.in_ok-sites.ensures, c.deref.ensures.value) at (c.note_each.ensures.list streams (λ site. c.reserve.ensures.noted site (streams site) (c.self.invariant.streams site).is)) in
    rw (c.deref-3.ensures.value, listed)
    (apart_placed c.in_ok-tokens.tokens.list streams (filter (is_among c.args.to.now) s.masters.items) (sites_apart s.masters.items s.queue.marks s.queue.deferred s.index.streams s.index.streams s.count c.self.invariant c.args.to.now))

pub invariant_of-self-2 : goal.invariant_of-self-2
invariant_of-self-2 c =
    let s = c.self.inside in
    let tokens = c.in_ok-tokens.tokens.list in
    let streams = streams_in c.self.invariant in
    let known = λ (site : SiteName). c.reserve.ensures.noted site (streams site) (c.self.invariant.streams site).is in
    let listed = rw (c.deref-2.ensures.value, c.in_ok-sites.ensures, c.deref.ensures.value) at (c.note_each.ensures.list streams known) in
    let noted = rw (c.deref-2.ensures.value, c.in_ok-sites.ensures, c.deref.ensures.value) at (c.note_each.ensures.noted streams known) in
    let order = ordered s.masters.items s.queue.marks s.queue.deferred s.index.streams s.index.streams s.count c.self.invariant c.args.to.now tokens streams in
    rw (c.push_back-number.ensures.marks, c.push_back-number.ensures.deferred, c.push_back-number.ensures.number, c.reserve-2.ensures.marks, c.reserve-2.ensures.deferred, c.deref-3.ensures.value, listed, order, c.new-past.ensures, c.self.invariant.counted)
    (IsOutbox-pushed s.masters.items s.queue.marks s.queue.deferred s.index.streams c.note_each.new.index.streams s.count c.self.invariant c.args.to.now tokens (c.note_each.ensures.destinations ∙ c.reserve.ensures.destinations) noted
    (Some (record { txn = c.args.txn; past = [] })))

pub returns-clause-deferred : goal.returns-clause-deferred
returns-clause-deferred c =
    let s = c.self.inside in
    let tokens = c.in_ok-tokens.tokens.list in
    let streams = streams_in c.self.invariant in
    let known = λ (site : SiteName). c.reserve.ensures.noted site (streams site) (c.self.invariant.streams site).is in
    let listed = rw (c.deref-2.ensures.value, c.in_ok-sites.ensures, c.deref.ensures.value) at (c.note_each.ensures.list streams known) in
    let order = ordered s.masters.items s.queue.marks s.queue.deferred s.index.streams s.index.streams s.count c.self.invariant c.args.to.now tokens streams in
    let same = same_sites s.masters.items s.queue.marks s.queue.deferred s.index.streams s.index.streams s.count c.self.invariant c.args.to.now in
    rw (← c.self.view_is, c.push_back-number.ensures.deferred, c.reserve-2.ensures.marks, c.reserve-2.ensures.deferred, c.deref-3.ensures.value, listed, order, same)
    (lists_in-pushed (Some (record { txn = c.args.txn; past = [] })) tokens streams (filter (is_among c.args.to.now) s.masters.items) s.queue.deferred)

pub returns-clause-ok : goal.returns-clause-ok
returns-clause-ok c =
    let s = c.self.inside in
    let sites = filter (is_among c.args.to.now) s.masters.items in
    let same = same_sites s.masters.items s.queue.marks s.queue.deferred s.index.streams s.index.streams s.count c.self.invariant c.args.to.now in
    let list = rw (c.deref-2.ensures.value, c.in_ok-sites.ensures, c.deref.ensures.value, c.in_ok-tokens.ensures) at c.note_each.ensures.list in
    let noted = rw (c.deref-2.ensures.value, c.in_ok-sites.ensures, c.deref.ensures.value, c.in_ok-tokens.ensures) at c.note_each.ensures.noted in
    let order = ordered s.masters.items s.queue.marks s.queue.deferred s.index.streams s.index.streams s.count c.self.invariant c.args.to.now (proc_tokens c.args.txn) in
    rw (← c.self.view_is, c.push_back-number.ensures.marks, c.push_back-number.ensures.deferred, c.reserve-2.ensures.marks, c.reserve-2.ensures.deferred, c.deref-3.ensures.value, c.new-past.ensures, same)
    (λ lists txns keeps. Keeps-pushed lists txns c.args.txn sites s.queue.marks s.queue.deferred s.index.streams c.note_each.new.index.streams (in_order s.queue.marks c.note_each.new.to.items)
    (λ streams are. rw (list streams (λ site. c.reserve.ensures.noted site (streams site) (are site))) (order streams))
    (λ streams are. noted streams (λ site. c.reserve.ensures.noted site (streams site) (are site))) keeps)
