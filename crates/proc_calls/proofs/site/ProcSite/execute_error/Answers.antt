use Rattle.std.proofs.Common.{◌≡◌, None, ap, inr, refl, reverse, subst}
use Rattle.site_state.proofs.Growing.{one_entry_more}
use Rattle.proc_state.specs.Errors.{proc_execute, proc_execute_refusal}
use Rattle.proc_calls.specs.ProcSiteInvariant.{state_of}
use Rattle.proc_calls.proofs.ProcSiteSteps.{kept_holds_is, error_is, none_to_execute, error_fits, stops_as, execute_state_is, executes, execute_holds_is}
use Rattle.proc_calls.proofs.site.ProcSite.execute_error.Goals as goal

pub returns-in_default-clause-err : goal.returns-in_default-clause-err
returns-in_default-clause-err c =
    let rising = rw (← c.self.view_is) at c.arrivals_rise.ensures in
    rw (← c.self.view_is) (inr (none_to_execute _ _ _ _ _ _ _ _ c.self.invariant c.args.origin.now c.args.position rising c.in_default.ensures))

pub apply_txn-requires-clause-keyed : goal.apply_txn-requires-clause-keyed
apply_txn-requires-clause-keyed c = λ κs. c.self.invariant.fits.keyed

pub apply_txn-requires-clause-procedures : goal.apply_txn-requires-clause-procedures
apply_txn-requires-clause-procedures c = λ κs. rw c.as_slice.ensures c.self.invariant.fits.procedures

pub apply_txn-requires-clause-fits : goal.apply_txn-requires-clause-fits
apply_txn-requires-clause-fits c = λ κs.
    let h = c.self.invariant in
    let rising = rw (← c.self.view_is) at c.arrivals_rise.ensures in
    let e = c.in-Some.error.now in
    let stands = error_is _ _ _ _ _ _ _ _ h c.args.origin.now c.args.position rising e c.in-Some.ensures in
    rw (c.as_slice.ensures, c.in_ok-txn.ensures) (error_fits _ _ _ _ _ _ _ _ h c.args.origin.now c.args.position rising e stands)

pub returns-in-Err-clause-err : goal.returns-in-Err-clause-err
returns-in-Err-clause-err c =
    let h = c.self.invariant in
    let rising = rw (← c.self.view_is) at c.arrivals_rise.ensures in
    let e = c.in-Some.error.now in
    let stands = error_is _ _ _ _ _ _ _ _ h c.args.origin.now c.args.position rising e c.in-Some.ensures in
    let stops = rw (c.as_slice.ensures, c.in_ok-txn.ensures) at c.in-Err.ensures.err in
    rw (← c.self.view_is, c.refusal_of.ensures) (stops_as _ _ _ _ _ _ _ _ h c.args.origin.now c.args.position rising e stands _ stops)

pub invariant_of-self : goal.invariant_of-self
invariant_of-self c =
    let h = c.self.invariant in
    kept_holds_is _ _ _ _ _ _ _ _ h _ _ c.self.inside.outbox _ _ refl (ap reverse c.reserve.ensures.items) refl refl refl refl h.keeps

pub invariant_of-self-in-Err : goal.invariant_of-self-in-Err
invariant_of-self-in-Err c =
    let h = c.self.invariant in
    kept_holds_is _ _ _ _ _ _ _ _ h _ _ c.self.inside.outbox _ _ c.apply_txn.ensures.schema (ap reverse c.reserve.ensures.items) c.in-Err.ensures.kept refl refl refl h.keeps

pub invariant_of-self-2 : goal.invariant_of-self-2
invariant_of-self-2 c =
    let h = c.self.invariant in
    let rising = rw (← c.self.view_is) at c.arrivals_rise.ensures in
    let e = c.in-Some.error.now in
    let stands = error_is _ _ _ _ _ _ _ _ h c.args.origin.now c.args.position rising e c.in-Some.ensures in
    let gives = rw (c.as_slice.ensures, c.in_ok-txn.ensures) at c.in_default-apply_txn.ensures.ok in
    let journal = one_entry_more _ _ _ _ c.push.ensures.items c.reserve.ensures.items in
    execute_holds_is _ _ _ _ _ _ _ _ h c.args.origin.now c.args.position rising e stands _ gives _ _ _ _ c.apply_txn.ensures.schema journal c.in_ok-txn.ensures c.remove.ensures.lists

pub returns-clause-ok : goal.returns-clause-ok
returns-clause-ok c =
    let s = c.self.inside in
    let h = c.self.invariant in
    let rising = rw (← c.self.view_is) at c.arrivals_rise.ensures in
    let e = c.in-Some.error.now in
    let stands = error_is _ _ _ _ _ _ _ _ h c.args.origin.now c.args.position rising e c.in-Some.ensures in
    let gives = rw (c.as_slice.ensures, c.in_ok-txn.ensures) at c.in_default-apply_txn.ensures.ok in
    let journal = one_entry_more _ _ _ _ c.push.ensures.items c.reserve.ensures.items in
    let new = state_of c.apply_txn.new.store.schema s.procedures s.me (reverse c.push.new.self.items) s.inboxes.items s.outbox in
    subst (λ y. new ≡ proc_execute c.args.origin.now c.args.position y) c.self.view_is
    (execute_state_is _ _ _ _ _ _ _ _ h c.args.origin.now c.args.position rising e stands _ gives _ _ _ c.apply_txn.ensures.schema journal c.in_ok-txn.ensures)

pub returns-clause-executes : goal.returns-clause-executes
returns-clause-executes c =
    let h = c.self.invariant in
    let rising = rw (← c.self.view_is) at c.arrivals_rise.ensures in
    let e = c.in-Some.error.now in
    let stands = error_is _ _ _ _ _ _ _ _ h c.args.origin.now c.args.position rising e c.in-Some.ensures in
    let gives = rw (c.as_slice.ensures, c.in_ok-txn.ensures) at c.in_default-apply_txn.ensures.ok in
    subst (λ y. proc_execute_refusal c.args.origin.now c.args.position y ≡ None) c.self.view_is (executes _ _ _ _ _ _ _ _ h c.args.origin.now c.args.position rising e stands _ gives)
