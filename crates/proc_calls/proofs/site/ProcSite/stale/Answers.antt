use Rattle.std.proofs.Common.{refl, sym}
use Rattle.proc_calls.proofs.Reading.{stale_none, stale_finished, stale_absent, stale_early, stale_ready}
use Rattle.proc_calls.proofs.site.ProcSite.stale.Goals as goal

pub returns-in_default : goal.returns-in_default
returns-in_default c =
    let none = sym (rw c.deref.ensures.value at c.in_default.ensures) in
    rw (← c.self.view_is) (stale_none _ _ _ _ _ c.self.invariant refl c.args.origin.now none c.args.position)

pub returns-then-is_finished : goal.returns-then-is_finished
returns-then-is_finished c =
    let found = sym (rw c.deref.ensures.value at c.in-Some.ensures) in
    rw (← c.self.view_is) (stale_finished _ _ _ _ _ c.self.invariant refl c.args.origin.now c.in-Some.inbox.now found c.args.position (sym c.if-is_finished.ensures))

pub returns-in_default-find : goal.returns-in_default-find
returns-in_default-find c =
    let found = sym (rw c.deref.ensures.value at c.in-Some.ensures) in
    rw (← c.self.view_is) (stale_absent _ _ _ _ _ c.self.invariant refl c.args.origin.now c.in-Some.inbox.now found c.args.position (sym c.if-is_finished.ensures) (sym c.in_default-find.ensures))

pub returns-then-mark-arrival : goal.returns-then-mark-arrival
returns-then-mark-arrival c =
    let found = sym (rw c.deref.ensures.value at c.in-Some.ensures) in
    let low = rw (← c.self.view_is) at c.mark.ensures in
    let early = rw low at c.if-mark-arrival.true in
    rw (← c.self.view_is) (stale_early _ _ _ _ _ c.self.invariant refl c.args.origin.now c.in-Some.inbox.now found c.args.position (sym c.if-is_finished.ensures) c.in-Some-find.arrival.now (sym c.in-Some-find.ensures) early)

pub returns : goal.returns
returns c =
    let found = sym (rw c.deref.ensures.value at c.in-Some.ensures) in
    let low = rw (← c.self.view_is) at c.mark.ensures in
    let ready = rw low at c.if-mark-arrival.false in
    rw (← c.self.view_is) (stale_ready _ _ _ _ _ c.self.invariant refl c.args.origin.now c.in-Some.inbox.now found c.args.position (sym c.if-is_finished.ensures) c.in-Some-find.arrival.now (sym c.in-Some-find.ensures) ready)
