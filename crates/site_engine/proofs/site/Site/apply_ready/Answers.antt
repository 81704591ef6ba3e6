use Rattle.std.proofs.Common.{◌≡◌, ◌∙◌, ◌==◌, ℕ, ap, arith, refl, reverse, set, subst}
use Rattle.std.specs.Prelude.{◌||◌}
use Rattle.std.proofs.lemmas.Result.{err_from_is_err_and}
use Rattle.origin_marks.specs.Edges.{is_between}
use Rattle.site_state.specs.Passes.{site_apply, apply_answer}
use Rattle.sender_inbox.specs.Inboxes.{sender_in}
use Rattle.site_engine.specs.SiteInvariant.{state_of}
use Rattle.sender_inbox.proofs.ChangedInbox.{senders_in-same}
use Rattle.site_state.proofs.Growing.{one_entry_more}
use Rattle.site_engine.proofs.Beginning.{ends_on_rows}
use Rattle.site_engine.proofs.SiteSteps.{count_is, room_state_is, room_holds_is, ready_known, ready_unfinished, ready_arrived, ready_there, ready_fits, ready_sized, error_origin, error_absent, ready_follow, apply_state_is, apply_answer_is, apply_holds_is, droppable_with}
use Rattle.site_engine.proofs.site.Site.apply_ready.Goals as goal

pub unreachable-requires : goal.unreachable-requires
unreachable-requires g c =
    let stale = rw (← c.self.view_is) at c.requires.ready in
    ready_known _ _ _ _ _ _ c.self.inside.notes _ _ _ _ _ _ c.self.invariant c.args.origin.now c.args.position stale (rw c.deref.ensures.value at c.in_default.ensures)

pub invariant_of-self : goal.invariant_of-self
invariant_of-self g c =
    let s = c.self.inside in
    let h = c.self.invariant in
    let found = rw c.deref.ensures.value at c.in-Some.ensures in
    let i = c.index_mut-inbox.result.now in
    let is = c.index_mut-inbox.ensures.value in
    room_holds_is _ _ _ _ _ _ c.self.inside.notes _ _ _ _ _ _ h c.args.origin.now c.in-Some.place i c.reserve_position.new.inbox found is c.reserve_position.ensures.sender _ _ s.outbox s.notes _ _ _ _ refl (ap reverse c.reserve_position.ensures.items) refl refl c.reserve_position.ensures.lists
    (λ q. ap (λ edges. is_between edges q) c.reserve_position.ensures.finished) refl refl h.keeps (omega (arith, h.droppable, c.reserve_position.ensures.spare))

pub returns-in_err-reserve_position-clause-err : goal.returns-in_err-reserve_position-clause-err
returns-in_err-reserve_position-clause-err g c =
    let s = c.self.inside in
    let h = c.self.invariant in
    let found = rw c.deref.ensures.value at c.in-Some.ensures in
    let i = c.index_mut-inbox.result.now in
    let is = c.index_mut-inbox.ensures.value in
    let p = err_from_is_err_and c.from_residual-in_err-reserve_position.result c.from_residual-in_err-reserve_position.ensures.1 in
    let new = state_of (g.R.RowStore.schema s.store) s.here (g.R.RowStore.tables s.base.value) (reverse c.reserve_position.new.journal.items) (set s.inboxes.items c.in-Some.place c.reserve_position.new.inbox) s.outbox s.notes s.stamps s.moment in
    rw p.1
    (subst (λ y. new ≡ y) c.self.view_is
    (room_state_is _ _ _ _ _ _ c.self.inside.notes _ _ _ _ _ _ h c.args.origin.now c.in-Some.place i c.reserve_position.new.inbox found is c.reserve_position.ensures.sender _ _ s.outbox s.notes refl (ap reverse c.reserve_position.ensures.items) refl refl refl refl))

pub unreachable-requires-in_default-find : goal.unreachable-requires-in_default-find
unreachable-requires-in_default-find g c =
    let stale = rw (← c.self.view_is) at c.requires.ready in
    let found = rw c.deref.ensures.value at c.in-Some.ensures in
    ready_arrived _ _ _ _ _ _ c.self.inside.notes _ _ _ _ _ _ c.self.invariant c.args.origin.now c.args.position stale c.in-Some.place c.index_mut-inbox.result.now found c.index_mut-inbox.ensures.value (rw c.reserve_position.ensures.sender at c.in_default-find.ensures)

pub apply_arrival-requires-clause-fits : goal.apply_arrival-requires-clause-fits
apply_arrival-requires-clause-fits g c = λ κs lives.
    let h = c.self.invariant in
    let found = rw c.deref.ensures.value at c.in-Some.ensures in
    let i = c.index_mut-inbox.result.now in
    let is = c.index_mut-inbox.ensures.value in
    let stale = rw (← c.self.view_is) at c.requires.ready in
    let a = c.in-Some-find.arrival.now in
    let there = rw c.reserve_position.ensures.sender at c.in-Some-find.ensures in
    ready_fits _ _ _ _ _ _ c.self.inside.notes _ _ _ _ _ _ h c.args.origin.now c.args.position stale c.in-Some.place i found is a there

pub apply_arrival-requires-clause-few : goal.apply_arrival-requires-clause-few
apply_arrival-requires-clause-few g c = λ κs lives.
    let h = c.self.invariant in
    let found = rw c.deref.ensures.value at c.in-Some.ensures in
    let i = c.index_mut-inbox.result.now in
    let is = c.index_mut-inbox.ensures.value in
    let stale = rw (← c.self.view_is) at c.requires.ready in
    let a = c.in-Some-find.arrival.now in
    let there = rw c.reserve_position.ensures.sender at c.in-Some-find.ensures in
    (ready_sized _ _ _ _ _ _ c.self.inside.notes _ _ _ _ _ _ h c.args.origin.now c.args.position stale c.in-Some.place i found is a there).most

pub apply_arrival-requires-clause-ending : goal.apply_arrival-requires-clause-ending
apply_arrival-requires-clause-ending g c = λ κs lives.
    let h = c.self.invariant in
    let found = rw c.deref.ensures.value at c.in-Some.ensures in
    let i = c.index_mut-inbox.result.now in
    let is = c.index_mut-inbox.ensures.value in
    let stale = rw (← c.self.view_is) at c.requires.ready in
    let ends = rw (← c.self.view_is) at c.requires.ending in
    let a = c.in-Some-find.arrival.now in
    let there = rw c.reserve_position.ensures.sender at c.in-Some-find.ensures in
    let arrived = ready_there _ _ _ _ _ _ c.self.inside.notes _ _ _ _ _ _ h c.args.origin.now c.args.position stale c.in-Some.place i found is a there in
    ends_on_rows _ _ _ _ _ _ _ h c.args.origin.now c.args.position a arrived c.args.ending ends

pub invariant_of-self-in_err-step : goal.invariant_of-self-in_err-step
invariant_of-self-in_err-step g c =
    let h = c.self.invariant in
    let found = rw c.deref.ensures.value at c.in-Some.ensures in
    let i = c.index_mut-inbox.result.now in
    let is = c.index_mut-inbox.ensures.value in
    room_holds_is _ _ _ _ _ _ c.self.inside.notes _ _ _ _ _ _ h c.args.origin.now c.in-Some.place i c.reserve_position.new.inbox found is c.reserve_position.ensures.sender _ _ c.apply_arrival.new.outbox c.apply_arrival.new.notes _ _ _ _ c.apply_arrival.ensures.schema (ap reverse c.reserve_position.ensures.items)
    c.in_err-step.ensures.kept.tables c.in_err-step.ensures.kept.numbers c.reserve_position.ensures.lists
    (λ q. ap (λ edges. is_between edges q) c.reserve_position.ensures.finished) c.in_err-step.ensures.kept.snapshots c.apply_arrival.ensures.destinations (c.in_err-step.ensures.kept.queue _ _ h.keeps) (omega (arith, h.droppable, c.reserve_position.ensures.spare))

pub returns-in_err-step-clause-err : goal.returns-in_err-step-clause-err
returns-in_err-step-clause-err g c =
    let s = c.self.inside in
    let h = c.self.invariant in
    let found = rw c.deref.ensures.value at c.in-Some.ensures in
    let i = c.index_mut-inbox.result.now in
    let is = c.index_mut-inbox.ensures.value in
    let p = err_from_is_err_and c.from_residual-in_err-step.result c.from_residual-in_err-step.ensures.1 in
    let new = state_of (g.R.RowStore.schema c.apply_arrival.new.store) s.here (g.R.RowStore.tables s.base.value) (reverse c.reserve_position.new.journal.items) (set s.inboxes.items c.in-Some.place c.reserve_position.new.inbox) c.apply_arrival.new.outbox c.apply_arrival.new.notes s.stamps s.moment in
    rw p.1
    (subst (λ y. new ≡ y) c.self.view_is
    (room_state_is _ _ _ _ _ _ c.self.inside.notes _ _ _ _ _ _ h c.args.origin.now c.in-Some.place i c.reserve_position.new.inbox found is c.reserve_position.ensures.sender _ _ c.apply_arrival.new.outbox c.apply_arrival.new.notes c.apply_arrival.ensures.schema (ap reverse c.reserve_position.ensures.items)
    c.apply_arrival.ensures.destinations c.apply_arrival.ensures.purged c.in_err-step.ensures.kept.logs c.in_err-step.ensures.kept.snapshots))

pub finish-requires-clause-unfinished : goal.finish-requires-clause-unfinished
finish-requires-clause-unfinished g c =
    let h = c.self.invariant in
    let found = rw c.deref.ensures.value at c.in-Some.ensures in
    let i = c.index_mut-inbox.result.now in
    let is = c.index_mut-inbox.ensures.value in
    let stale = rw (← c.self.view_is) at c.requires.ready in
    ap (λ edges. is_between edges c.args.position) c.reserve_position.ensures.finished
    ∙ ready_unfinished _ _ _ _ _ _ c.self.inside.notes _ _ _ _ _ _ h c.args.origin.now c.args.position stale c.in-Some.place i found is

pub add_error-requires-clause-origin : goal.add_error-requires-clause-origin
add_error-requires-clause-origin g c =
    let h = c.self.invariant in
    let found = rw c.deref.ensures.value at c.in-Some.ensures in
    let i = c.index_mut-inbox.result.now in
    let is = c.index_mut-inbox.ensures.value in
    let stale = rw (← c.self.view_is) at c.requires.ready in
    let a = c.in-Some-find.arrival.now in
    let there = rw c.reserve_position.ensures.sender at c.in-Some-find.ensures in
    rw (c.reserve_position.ensures.lists, c.in_ok-step.ensures.error)
    (error_origin _ _ _ _ _ _ c.self.inside.notes _ _ _ _ _ _ h c.args.origin.now c.args.position stale c.in-Some.place i found is a there _)

pub add_error-requires-clause-absent : goal.add_error-requires-clause-absent
add_error-requires-clause-absent g c =
    let h = c.self.invariant in
    let found = rw c.deref.ensures.value at c.in-Some.ensures in
    let i = c.index_mut-inbox.result.now in
    let is = c.index_mut-inbox.ensures.value in
    let stale = rw (← c.self.view_is) at c.requires.ready in
    let a = c.in-Some-find.arrival.now in
    let there = rw c.reserve_position.ensures.sender at c.in-Some-find.ensures in
    let rising = rw (← c.self.view_is) at c.arrivals_rise.ensures in
    rw (c.reserve_position.ensures.lists, c.in_ok-step.ensures.error)
    (error_absent _ _ _ _ _ _ c.self.inside.notes _ _ _ _ _ _ h c.args.origin.now c.args.position stale c.in-Some.place i found is a there rising _)

pub invariant_of-self-2 : goal.invariant_of-self-2
invariant_of-self-2 g c =
    let s = c.self.inside in
    let h = c.self.invariant in
    let found = rw c.deref.ensures.value at c.in-Some.ensures in
    let i = c.index_mut-inbox.result.now in
    let is = c.index_mut-inbox.ensures.value in
    let stale = rw (← c.self.view_is) at c.requires.ready in
    let a = c.in-Some-find.arrival.now in
    let there = rw c.reserve_position.ensures.sender at c.in-Some-find.ensures in
    let arrived = ready_there _ _ _ _ _ _ c.self.inside.notes _ _ _ _ _ _ h c.args.origin.now c.args.position stale c.in-Some.place i found is a there in
    let seen = rw (← c.self.view_is) at c.in_ok-past.ensures in
    let count = count_is _ _ _ _ _ _ c.self.inside.notes _ _ _ _ _ _ h in
    let kept = c.finish.ensures.sender ∙ c.reserve_position.ensures.sender in
    let senders = senders_in-same s.inboxes.items c.in-Some.place c.finish.new.self i (kept ∙ ap sender_in is) in
    let journal = one_entry_more _ _ _ _ c.push.ensures.items c.reserve_position.ensures.items in
    let rising = rw (← c.self.view_is) at c.arrivals_rise.ensures in
    let lists = c.add_error.ensures ∙ rw (c.reserve_position.ensures.lists, c.in_ok-step.ensures.error) refl in
    let more = λ (q : ℕ). c.finish.ensures.finished q ∙ ap (λ b. q == c.args.position || b) (ap (λ edges. is_between edges q) c.reserve_position.ensures.finished) in
    let follow = ready_follow _ _ _ _ _ _ c.self.inside.notes _ _ _ _ _ _ h c.args.origin.now c.args.position stale c.in-Some.place i found is a there c.in_ok-past.past _ _ c.finish.new.self kept more in
    apply_holds_is _ _ _ _ _ _ c.self.inside.notes _ _ _ _ _ _ h c.args.origin.now c.args.position a stale arrived c.in_ok-past.past seen _ count c.apply_arrival.new.outbox c.apply_arrival.ensures.destinations c.apply_arrival.ensures.purged
    (set s.inboxes.items c.in-Some.place c.finish.new.self) senders c.apply_arrival.new.notes c.in_ok-step.ensures.changed.noted _ _ c.in_ok-step.step.entry _ _ _ _ c.apply_arrival.ensures.schema journal c.in_ok-step.ensures.entry c.in_ok-step.ensures.changed.tables c.in_ok-step.ensures.changed.numbers lists
    c.in_ok-step.ensures.few rising (c.in_ok-step.ensures.changed.queue _ _ h.keeps) follow (droppable_with _ _ _ _ _ _ c.self.inside.notes _ _ _ _ _ _ h c.args.origin.now c.args.position a stale arrived c.in_ok-past.past seen _ count c.apply_arrival.new.outbox c.apply_arrival.ensures.destinations c.apply_arrival.ensures.purged
    (set s.inboxes.items c.in-Some.place c.finish.new.self) senders c.apply_arrival.new.notes c.in_ok-step.ensures.changed.noted _ lists _ (omega (arith, c.in_ok-reserve_position.ensures.journal, c.push.ensures.spare)))

pub returns-clause-ok : goal.returns-clause-ok
returns-clause-ok g c =
    let s = c.self.inside in
    let h = c.self.invariant in
    let found = rw c.deref.ensures.value at c.in-Some.ensures in
    let i = c.index_mut-inbox.result.now in
    let is = c.index_mut-inbox.ensures.value in
    let stale = rw (← c.self.view_is) at c.requires.ready in
    let a = c.in-Some-find.arrival.now in
    let there = rw c.reserve_position.ensures.sender at c.in-Some-find.ensures in
    let arrived = ready_there _ _ _ _ _ _ c.self.inside.notes _ _ _ _ _ _ h c.args.origin.now c.args.position stale c.in-Some.place i found is a there in
    let seen = rw (← c.self.view_is) at c.in_ok-past.ensures in
    let count = count_is _ _ _ _ _ _ c.self.inside.notes _ _ _ _ _ _ h in
    let kept = c.finish.ensures.sender ∙ c.reserve_position.ensures.sender in
    let senders = senders_in-same s.inboxes.items c.in-Some.place c.finish.new.self i (kept ∙ ap sender_in is) in
    let journal = one_entry_more _ _ _ _ c.push.ensures.items c.reserve_position.ensures.items in
    let new = state_of (g.R.RowStore.schema c.apply_arrival.new.store) s.here (g.R.RowStore.tables s.base.value) (reverse c.push.new.self.items) (set s.inboxes.items c.in-Some.place c.finish.new.self) c.apply_arrival.new.outbox c.apply_arrival.new.notes s.stamps s.moment in
    subst (λ y. new ≡ site_apply c.args.origin.now c.args.position y) c.self.view_is
    (apply_state_is _ _ _ _ _ _ c.self.inside.notes _ _ _ _ _ _ h c.args.origin.now c.args.position a stale arrived c.in_ok-past.past seen _ count c.apply_arrival.new.outbox c.apply_arrival.ensures.destinations c.apply_arrival.ensures.purged
    (set s.inboxes.items c.in-Some.place c.finish.new.self) senders c.apply_arrival.new.notes c.in_ok-step.ensures.changed.noted _ _ c.in_ok-step.step.entry c.apply_arrival.ensures.schema journal c.in_ok-step.ensures.entry)

pub returns-clause-answer : goal.returns-clause-answer
returns-clause-answer g c =
    let s = c.self.inside in
    let h = c.self.invariant in
    let found = rw c.deref.ensures.value at c.in-Some.ensures in
    let i = c.index_mut-inbox.result.now in
    let is = c.index_mut-inbox.ensures.value in
    let stale = rw (← c.self.view_is) at c.requires.ready in
    let a = c.in-Some-find.arrival.now in
    let there = rw c.reserve_position.ensures.sender at c.in-Some-find.ensures in
    let arrived = ready_there _ _ _ _ _ _ c.self.inside.notes _ _ _ _ _ _ h c.args.origin.now c.args.position stale c.in-Some.place i found is a there in
    let seen = rw (← c.self.view_is) at c.in_ok-past.ensures in
    let count = count_is _ _ _ _ _ _ c.self.inside.notes _ _ _ _ _ _ h in
    let kept = c.finish.ensures.sender ∙ c.reserve_position.ensures.sender in
    let senders = senders_in-same s.inboxes.items c.in-Some.place c.finish.new.self i (kept ∙ ap sender_in is) in
    let answer = c.in_ok-step.ensures.answer ∙ apply_answer_is _ _ _ _ _ _ c.self.inside.notes _ _ _ _ _ _ h c.args.origin.now c.args.position a stale arrived c.in_ok-past.past seen _ count c.apply_arrival.new.outbox c.apply_arrival.ensures.destinations c.apply_arrival.ensures.purged
    (set s.inboxes.items c.in-Some.place c.finish.new.self) senders c.apply_arrival.new.notes c.in_ok-step.ensures.changed.noted in
    subst (λ y. c.in_ok-step.step.answer ≡ apply_answer c.args.origin.now c.args.position y) c.self.view_is answer
