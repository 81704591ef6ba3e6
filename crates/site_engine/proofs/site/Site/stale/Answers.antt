use Rattle.std.proofs.Common.{refl, sym}
use Rattle.site_engine.proofs.Reading.{stale_none, stale_finished, stale_absent, stale_early, stale_ready}
use Rattle.site_engine.proofs.site.Site.stale.Goals as goal

pub returns-in_default : goal.returns-in_default
returns-in_default g c =
    let none = sym (rw c.deref.ensures.value at c.in_default.ensures) in
    rw (← c.self.view_is) (stale_none _ _ _ _ _ _ _ c.self.invariant refl c.args.origin.now none c.args.position)

pub returns-then-is_finished : goal.returns-then-is_finished
returns-then-is_finished g c =
    let found = sym (rw c.deref.ensures.value at c.in-Some.ensures) in
    rw (← c.self.view_is) (stale_finished _ _ _ _ _ _ _ c.self.invariant refl c.args.origin.now c.in-Some.inbox.now found c.args.position (sym c.if-is_finished.ensures))

pub returns-in_default-find : goal.returns-in_default-find
returns-in_default-find g c =
    let found = sym (rw c.deref.ensures.value at c.in-Some.ensures) in
    rw (← c.self.view_is) (stale_absent _ _ _ _ _ _ _ c.self.invariant refl c.args.origin.now c.in-Some.inbox.now found c.args.position (sym c.if-is_finished.ensures) (sym c.in_default-find.ensures))

pub returns-then-not-is_due : goal.returns-then-not-is_due
returns-then-not-is_due g c =
    let found = sym (rw c.deref.ensures.value at c.in-Some.ensures) in
    let due = rw (← c.self.view_is) at (sym c.if-not-is_due.ensures) in
    rw (← c.self.view_is) (stale_early _ _ _ _ _ _ _ c.self.invariant refl c.args.origin.now c.in-Some.inbox.now found c.args.position (sym c.if-is_finished.ensures) c.in-Some-find.arrival.now (sym c.in-Some-find.ensures) due)

pub returns : goal.returns
returns g c =
    let found = sym (rw c.deref.ensures.value at c.in-Some.ensures) in
    let due = rw (← c.self.view_is) at (sym c.if-not-is_due.ensures) in
    rw (← c.self.view_is) (stale_ready _ _ _ _ _ _ _ c.self.invariant refl c.args.origin.now c.in-Some.inbox.now found c.args.position (sym c.if-is_finished.ensures) c.in-Some-find.arrival.now (sym c.in-Some-find.ensures) due)
