use Rattle.std.proofs.Common.{◌≡◌, ◌∙◌, ◌==◌, ℕ, ap, refl, reverse, set, subst}
use Rattle.std.specs.Prelude.{◌||◌}
use Rattle.std.proofs.lemmas.Result.{err_from_is_err_and}
use Rattle.origin_marks.specs.Edges.{is_between}
use Rattle.sender_inbox.specs.Inboxes.{sender_in}
use Rattle.sender_inbox.proofs.ChangedInbox.{senders_in-same}
use Rattle.site_state.proofs.Growing.{one_entry_more}
use Rattle.proc_state.specs.Passes.{proc_apply, proc_apply_answer}
use Rattle.proc_calls.specs.ProcSiteInvariant.{state_of}
use Rattle.proc_calls.proofs.ProcSiteSteps.{room_state_is, room_holds_is, ready_known, ready_unfinished, ready_arrived, ready_there, ready_fits, error_origin, error_absent, ready_follow, apply_state_is, apply_answer_is, apply_holds_is}
use Rattle.proc_calls.proofs.site.ProcSite.apply_ready.Goals as goal

pub unreachable-requires : goal.unreachable-requires
unreachable-requires c =
    let stale = rw (← c.self.view_is) at c.requires in
    ready_known _ _ _ _ _ _ _ _ c.self.invariant c.args.origin.now c.args.position stale (rw c.deref.ensures.value at c.in_default.ensures)

pub invariant_of-self : goal.invariant_of-self
invariant_of-self c =
    let found = rw c.deref.ensures.value at c.in-Some.ensures in
    let i = c.index_mut-inbox.result.now in
    let is = c.index_mut-inbox.ensures.value in
    room_holds_is _ _ _ _ _ _ _ _ c.self.invariant c.args.origin.now c.in-Some.place i c.reserve_position.new.inbox found is c.reserve_position.ensures.sender _ _ _ _ refl (ap reverse c.reserve_position.ensures.items) refl c.reserve_position.ensures.lists
    (λ q. ap (λ edges. is_between edges q) c.reserve_position.ensures.finished)

pub returns-in_err-reserve_position-clause-err : goal.returns-in_err-reserve_position-clause-err
returns-in_err-reserve_position-clause-err c =
    let s = c.self.inside in
    let found = rw c.deref.ensures.value at c.in-Some.ensures in
    let i = c.index_mut-inbox.result.now in
    let is = c.index_mut-inbox.ensures.value in
    let p = err_from_is_err_and c.from_residual.result c.from_residual.ensures.1 in
    let new = state_of s.store.schema s.procedures s.me (reverse c.reserve_position.new.journal.items) (set s.inboxes.items c.in-Some.place c.reserve_position.new.inbox) s.outbox in
    rw p.1
    (subst (λ y. new ≡ y) c.self.view_is
    (room_state_is _ _ _ _ _ _ _ _ c.self.invariant c.args.origin.now c.in-Some.place i c.reserve_position.new.inbox found is c.reserve_position.ensures.sender _ _ refl (ap reverse c.reserve_position.ensures.items)))

pub unreachable-requires-in_default-find : goal.unreachable-requires-in_default-find
unreachable-requires-in_default-find c =
    let stale = rw (← c.self.view_is) at c.requires in
    let found = rw c.deref.ensures.value at c.in-Some.ensures in
    ready_arrived _ _ _ _ _ _ _ _ c.self.invariant c.args.origin.now c.args.position stale c.in-Some.place c.index_mut-inbox.result.now found c.index_mut-inbox.ensures.value (rw c.reserve_position.ensures.sender at c.in_default-find.ensures)

pub apply_arrival-requires-clause-keyed : goal.apply_arrival-requires-clause-keyed
apply_arrival-requires-clause-keyed c = λ κs. c.self.invariant.fits.keyed

pub apply_arrival-requires-clause-procedures : goal.apply_arrival-requires-clause-procedures
apply_arrival-requires-clause-procedures c = λ κs. rw c.as_slice.ensures c.self.invariant.fits.procedures

pub apply_arrival-requires-clause-fits : goal.apply_arrival-requires-clause-fits
apply_arrival-requires-clause-fits c = λ κs.
    let found = rw c.deref.ensures.value at c.in-Some.ensures in
    let stale = rw (← c.self.view_is) at c.requires in
    let there = rw c.reserve_position.ensures.sender at c.in-Some-find.ensures in
    rw c.as_slice.ensures
    (ready_fits _ _ _ _ _ _ _ _ c.self.invariant c.args.origin.now c.args.position stale c.in-Some.place c.index_mut-inbox.result.now found c.index_mut-inbox.ensures.value c.in-Some-find.arrival.now there)

pub invariant_of-self-in_err-step : goal.invariant_of-self-in_err-step
invariant_of-self-in_err-step c =
    let found = rw c.deref.ensures.value at c.in-Some.ensures in
    let i = c.index_mut-inbox.result.now in
    let is = c.index_mut-inbox.ensures.value in
    room_holds_is _ _ _ _ _ _ _ _ c.self.invariant c.args.origin.now c.in-Some.place i c.reserve_position.new.inbox found is c.reserve_position.ensures.sender _ _ _ _ c.apply_arrival.ensures.schema (ap reverse c.reserve_position.ensures.items)
    c.in_err-step.ensures.kept c.reserve_position.ensures.lists (λ q. ap (λ edges. is_between edges q) c.reserve_position.ensures.finished)

pub returns-in_err-step-clause-err : goal.returns-in_err-step-clause-err
returns-in_err-step-clause-err c =
    let s = c.self.inside in
    let found = rw c.deref.ensures.value at c.in-Some.ensures in
    let i = c.index_mut-inbox.result.now in
    let is = c.index_mut-inbox.ensures.value in
    let p = err_from_is_err_and c.from_residual-in_err-step.result c.from_residual-in_err-step.ensures.1 in
    let new = state_of c.apply_arrival.new.store.schema s.procedures s.me (reverse c.reserve_position.new.journal.items) (set s.inboxes.items c.in-Some.place c.reserve_position.new.inbox) s.outbox in
    rw p.1
    (subst (λ y. new ≡ y) c.self.view_is
    (room_state_is _ _ _ _ _ _ _ _ c.self.invariant c.args.origin.now c.in-Some.place i c.reserve_position.new.inbox found is c.reserve_position.ensures.sender _ _ c.apply_arrival.ensures.schema (ap reverse c.reserve_position.ensures.items)))

pub finish-requires-clause-unfinished : goal.finish-requires-clause-unfinished
finish-requires-clause-unfinished c =
    let found = rw c.deref.ensures.value at c.in-Some.ensures in
    let stale = rw (← c.self.view_is) at c.requires in
    ap (λ edges. is_between edges c.args.position) c.reserve_position.ensures.finished
    ∙ ready_unfinished _ _ _ _ _ _ _ _ c.self.invariant c.args.origin.now c.args.position stale c.in-Some.place c.index_mut-inbox.result.now found c.index_mut-inbox.ensures.value

pub add_error-requires-clause-origin : goal.add_error-requires-clause-origin
add_error-requires-clause-origin c =
    let found = rw c.deref.ensures.value at c.in-Some.ensures in
    let stale = rw (← c.self.view_is) at c.requires in
    let there = rw c.reserve_position.ensures.sender at c.in-Some-find.ensures in
    rw (c.reserve_position.ensures.lists, c.in_ok-step.ensures.error)
    (error_origin _ _ _ _ _ _ _ _ c.self.invariant c.args.origin.now c.args.position stale c.in-Some.place c.index_mut-inbox.result.now found c.index_mut-inbox.ensures.value c.in-Some-find.arrival.now there _)

pub add_error-requires-clause-absent : goal.add_error-requires-clause-absent
add_error-requires-clause-absent c =
    let found = rw c.deref.ensures.value at c.in-Some.ensures in
    let stale = rw (← c.self.view_is) at c.requires in
    let there = rw c.reserve_position.ensures.sender at c.in-Some-find.ensures in
    let rising = rw (← c.self.view_is) at c.arrivals_rise.ensures in
    rw (c.reserve_position.ensures.lists, c.in_ok-step.ensures.error)
    (error_absent _ _ _ _ _ _ _ _ c.self.invariant c.args.origin.now c.args.position stale c.in-Some.place c.index_mut-inbox.result.now found c.index_mut-inbox.ensures.value c.in-Some-find.arrival.now there rising _)

pub invariant_of-self-2 : goal.invariant_of-self-2
invariant_of-self-2 c =
    let s = c.self.inside in
    let h = c.self.invariant in
    let found = rw c.deref.ensures.value at c.in-Some.ensures in
    let i = c.index_mut-inbox.result.now in
    let is = c.index_mut-inbox.ensures.value in
    let stale = rw (← c.self.view_is) at c.requires in
    let a = c.in-Some-find.arrival.now in
    let there = rw c.reserve_position.ensures.sender at c.in-Some-find.ensures in
    let arrived = ready_there _ _ _ _ _ _ _ _ h c.args.origin.now c.args.position stale c.in-Some.place i found is a there in
    let kept = c.finish.ensures.sender ∙ c.reserve_position.ensures.sender in
    let senders = senders_in-same s.inboxes.items c.in-Some.place c.finish.new.self i (kept ∙ ap sender_in is) in
    let journal = one_entry_more _ _ _ _ c.push.ensures.items c.reserve_position.ensures.items in
    let rising = rw (← c.self.view_is) at c.arrivals_rise.ensures in
    let entry = rw c.as_slice.ensures at c.in_ok-step.ensures.entry in
    let rows = rw c.as_slice.ensures at c.in_ok-step.ensures.tables in
    let lists = c.add_error.ensures ∙ rw (c.reserve_position.ensures.lists, c.in_ok-step.ensures.error, c.as_slice.ensures) refl in
    let more = λ (q : ℕ). c.finish.ensures.finished q ∙ ap (λ b. q == c.args.position || b) (ap (λ edges. is_between edges q) c.reserve_position.ensures.finished) in
    let follow = ready_follow _ _ _ _ _ _ _ _ h c.args.origin.now c.args.position stale c.in-Some.place i found is a there _ c.finish.new.self kept more in
    apply_holds_is _ _ _ _ _ _ _ _ h c.args.origin.now c.args.position a stale arrived (set s.inboxes.items c.in-Some.place c.finish.new.self) senders _ _ c.in_ok-step.step.entry _ _ c.apply_arrival.ensures.schema journal entry rows lists rising follow

pub returns-clause-ok : goal.returns-clause-ok
returns-clause-ok c =
    let s = c.self.inside in
    let h = c.self.invariant in
    let found = rw c.deref.ensures.value at c.in-Some.ensures in
    let i = c.index_mut-inbox.result.now in
    let is = c.index_mut-inbox.ensures.value in
    let stale = rw (← c.self.view_is) at c.requires in
    let a = c.in-Some-find.arrival.now in
    let there = rw c.reserve_position.ensures.sender at c.in-Some-find.ensures in
    let arrived = ready_there _ _ _ _ _ _ _ _ h c.args.origin.now c.args.position stale c.in-Some.place i found is a there in
    let kept = c.finish.ensures.sender ∙ c.reserve_position.ensures.sender in
    let senders = senders_in-same s.inboxes.items c.in-Some.place c.finish.new.self i (kept ∙ ap sender_in is) in
    let journal = one_entry_more _ _ _ _ c.push.ensures.items c.reserve_position.ensures.items in
    let entry = rw c.as_slice.ensures at c.in_ok-step.ensures.entry in
    let new = state_of c.apply_arrival.new.store.schema s.procedures s.me (reverse c.push.new.self.items) (set s.inboxes.items c.in-Some.place c.finish.new.self) s.outbox in
    subst (λ y. new ≡ proc_apply c.args.origin.now c.args.position y) c.self.view_is
    (apply_state_is _ _ _ _ _ _ _ _ h c.args.origin.now c.args.position a stale arrived (set s.inboxes.items c.in-Some.place c.finish.new.self) senders _ _ c.in_ok-step.step.entry c.apply_arrival.ensures.schema journal entry)

pub returns-clause-answer : goal.returns-clause-answer
returns-clause-answer c =
    let s = c.self.inside in
    let h = c.self.invariant in
    let found = rw c.deref.ensures.value at c.in-Some.ensures in
    let i = c.index_mut-inbox.result.now in
    let is = c.index_mut-inbox.ensures.value in
    let stale = rw (← c.self.view_is) at c.requires in
    let a = c.in-Some-find.arrival.now in
    let there = rw c.reserve_position.ensures.sender at c.in-Some-find.ensures in
    let arrived = ready_there _ _ _ _ _ _ _ _ h c.args.origin.now c.args.position stale c.in-Some.place i found is a there in
    let kept = c.finish.ensures.sender ∙ c.reserve_position.ensures.sender in
    let senders = senders_in-same s.inboxes.items c.in-Some.place c.finish.new.self i (kept ∙ ap sender_in is) in
    let answer = rw c.as_slice.ensures at c.in_ok-step.ensures.answer in
    subst (λ y. c.in_ok-step.step.answer ≡ proc_apply_answer c.args.origin.now c.args.position y) c.self.view_is
    (answer ∙ apply_answer_is _ _ _ _ _ _ _ _ h c.args.origin.now c.args.position a stale arrived (set s.inboxes.items c.in-Some.place c.finish.new.self) senders)
