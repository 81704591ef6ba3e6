use Rattle.std.proofs.Common.{◌≡◌, ◌∙◌, Ok, ap, refl, reverse, subst}
use Rattle.std.proofs.lemmas.Result.{err_from_is_err_and}
use Rattle.rep_schema.specs.Tables.{AreTables}
use Rattle.site_state.proofs.Growing.{one_entry_more}
use Rattle.proc_state.specs.Calling.{proc_call, proc_call_answer}
use Rattle.proc_state.proofs.Fitting.{IsProcTxn-carried}
use Rattle.proc_calls.specs.ProcSiteInvariant.{state_of}
use Rattle.proc_calls.proofs.ProcSiteSteps.{kept_holds_is, stops_here, call_answer_is, call_state_is, call_holds_is}
use Rattle.proc_calls.proofs.site.ProcSite.call.Goals as goal

pub carried_txn-requires-clause-keyed : goal.carried_txn-requires-clause-keyed
carried_txn-requires-clause-keyed c = rw c.schema.ensures.value c.self.invariant.fits.keyed

pub carried_txn-requires-clause-procedures : goal.carried_txn-requires-clause-procedures
carried_txn-requires-clause-procedures c = rw (c.schema.ensures.value, c.as_slice.ensures) c.self.invariant.fits.procedures

pub carried_txn-requires-clause-fit : goal.carried_txn-requires-clause-fit
carried_txn-requires-clause-fit c = rw (c.schema.ensures.value, c.as_slice.ensures) (rw (← c.self.view_is) at c.requires.fit)

pub apply_txn-requires-clause-fits : goal.apply_txn-requires-clause-fits
apply_txn-requires-clause-fits c = λ κs.
    let s = c.self.inside in
    let fit = rw (← c.self.view_is) at c.requires.fit in
    let txn = rw (c.schema.ensures.value, c.as_slice.ensures) at c.in_ok-txn.ensures.txn in
    rw (c.as_slice-2.ensures, txn) (IsProcTxn-carried s.store.schema s.procedures c.args.calls.now c.self.invariant.fits.procedures (record { fit = fit; some = c.requires.some; most = c.requires.most }))

pub returns-in_err-changes-clause-err : goal.returns-in_err-changes-clause-err
returns-in_err-changes-clause-err c =
    let fit = rw (← c.self.view_is) at c.requires.fit in
    let txn = rw (c.schema.ensures.value, c.as_slice.ensures) at c.in_ok-txn.ensures.txn in
    let stops = rw c.as_slice-2.ensures at c.in_err-changes.ensures.err in
    let p = err_from_is_err_and c.from_residual-in_err-changes.result c.from_residual-in_err-changes.ensures.1 in
    rw (p.1, p.2, ← c.self.view_is)
    (stops_here _ _ _ _ _ _ _ _ c.self.invariant c.args.calls.now (record { fit = fit; some = c.requires.some; most = c.requires.most }) c.in_ok-txn.txn txn c.in_err-changes.field-0.0 stops)

-- what the calls changed is taken back
pub invariant_of-self-in_default : goal.invariant_of-self-in_default
invariant_of-self-in_default c =
    let h = c.self.invariant in
    let s = c.self.inside in
    let schema = c.apply_txn.ensures.schema in
    let tables : AreTables s.store.schema s.store.tables = rw h.rows_are h.fits.tables in
    let back : c.undo.new.store.tables ≡ s.store.tables = c.undo.ensures.earlier s.store.tables (rw schema tables) (rw schema c.in_ok-changes.ensures.leads) in
    let keeps = c.in_default.ensures.err _ _ h.keeps in
    kept_holds_is _ _ _ _ _ _ _ _ h _ _ c.push.new.self _ _ (c.undo.ensures.schema ∙ schema) (ap reverse c.reserve.ensures.items) back refl c.in_default.ensures.kept c.push.ensures.marks keeps

pub invariant_of-self-2 : goal.invariant_of-self-2
invariant_of-self-2 c =
    let fit = rw (← c.self.view_is) at c.requires.fit in
    let txn = rw (c.schema.ensures.value, c.as_slice.ensures) at c.in_ok-txn.ensures.txn in
    let gives = rw c.as_slice-2.ensures at c.in_ok-changes.ensures.ok in
    let journal = one_entry_more _ _ _ _ c.push-2.ensures.items c.reserve.ensures.items in
    let keeps = rw c.in_ok-queued.ensures at (c.in-Ok.ensures.ok _ _ c.self.invariant.keeps) in
    call_holds_is _ _ _ _ _ _ _ _ c.self.invariant c.args.calls.now (record { fit = fit; some = c.requires.some; most = c.requires.most }) c.in_ok-txn.txn txn _ gives c.in-Ok.number c.in-Ok.ensures.number
    c.args.to.now c.push.new.self c.in-Ok.ensures.deferred c.push.ensures.marks _ _ _ c.apply_txn.ensures.schema journal refl c.in_ok-txn.ensures.plain keeps

pub returns-clause-ok : goal.returns-clause-ok
returns-clause-ok c =
    let s = c.self.inside in
    let fit = rw (← c.self.view_is) at c.requires.fit in
    let txn = rw (c.schema.ensures.value, c.as_slice.ensures) at c.in_ok-txn.ensures.txn in
    let gives = rw c.as_slice-2.ensures at c.in_ok-changes.ensures.ok in
    let journal = one_entry_more _ _ _ _ c.push-2.ensures.items c.reserve.ensures.items in
    let new = state_of c.apply_txn.new.store.schema s.procedures s.me (reverse c.push-2.new.self.items) s.inboxes.items c.push.new.self in
    subst (λ y. new ≡ proc_call c.args.calls.now c.args.to.now y) c.self.view_is
    (call_state_is _ _ _ _ _ _ _ _ c.self.invariant c.args.calls.now (record { fit = fit; some = c.requires.some; most = c.requires.most }) c.in_ok-txn.txn txn _ gives c.in-Ok.number c.in-Ok.ensures.number
    c.args.to.now c.push.new.self c.in-Ok.ensures.deferred c.push.ensures.marks _ _ c.apply_txn.ensures.schema journal)

pub returns-clause-number : goal.returns-clause-number
returns-clause-number c =
    let fit = rw (← c.self.view_is) at c.requires.fit in
    let txn = rw (c.schema.ensures.value, c.as_slice.ensures) at c.in_ok-txn.ensures.txn in
    let gives = rw c.as_slice-2.ensures at c.in_ok-changes.ensures.ok in
    subst (λ y. proc_call_answer c.args.calls.now y ≡ Ok c.in-Ok.number) c.self.view_is
    (call_answer_is _ _ _ _ _ _ _ _ c.self.invariant c.args.calls.now (record { fit = fit; some = c.requires.some; most = c.requires.most }) c.in_ok-txn.txn txn _ gives c.in-Ok.number c.in-Ok.ensures.number)
