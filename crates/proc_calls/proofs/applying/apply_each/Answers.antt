use Rattle.std.proofs.Common.{◌≡◌, ◌∙◌, Some, ap, arith, refl, sym}
use Rattle.std.specs.Prelude.{slice_get}
use Rattle.std.proofs.lemmas.Option.{slice_get-get_or}
use Rattle.std.proofs.lemmas.Result.{err_from_is_err_and}
use Rattle.proc_calls.proofs.AtPlace.{passes_at}
use Rattle.proc_calls.proofs.Trails.{keeps_still, keeps_then}
use Rattle.proc_calls.proofs.Carried.{calls_more, calls_stop, calls_done}
use Rattle.proc_calls.proofs.applying.apply_each.Goals as goal

pub loop-i-init : goal.loop-i-init
loop-i-init g c = record { so_far = refl; trail = keeps_still _ _ _ refl refl (λ t. omega arith) }

pub apply_numbered-requires-clause-keyed : goal.apply_numbered-requires-clause-keyed
apply_numbered-requires-clause-keyed g c = λ κs lives. rw c.loop-i.invariant.trail.schema c.requires.keyed

pub apply_numbered-requires-clause-procedures : goal.apply_numbered-requires-clause-procedures
apply_numbered-requires-clause-procedures g c = λ κs lives. rw c.loop-i.invariant.trail.schema c.requires.procedures

pub apply_numbered-requires-clause-form : goal.apply_numbered-requires-clause-form
apply_numbered-requires-clause-form g c = λ κs lives.
    let calls = c.args.calls.now in
    let call = c.index-calls-i.result in
    let there : slice_get calls c.loop-i.i ≡ Some call = slice_get-get_or calls c.loop-i.i call c.loop-i-test.true ∙ ap Some (sym c.index-calls-i.is) in
    rw c.loop-i.invariant.trail.schema (passes_at _ calls c.loop-i.i call c.requires.form there)

pub returns-in_err-apply_numbered-clause-err : goal.returns-in_err-apply_numbered-clause-err
returns-in_err-apply_numbered-clause-err g c =
    let schema = g.R.RowStore.schema c.args.store.now in
    let calls = c.args.calls.now in
    let call = c.index-calls-i.result in
    let there : slice_get calls c.loop-i.i ≡ Some call = slice_get-get_or calls c.loop-i.i call c.loop-i-test.true ∙ ap Some (sym c.index-calls-i.is) in
    let stops = calls_stop schema c.args.procedures.now calls (g.R.RowStore.tables c.args.store.now) (g.R.RowStore.tables c.loop-i.store) c.loop-i.i c.loop-i.invariant.so_far call there (passes_at _ calls c.loop-i.i call c.requires.form there)
    c.in_err-apply_numbered.field-0.0 (rw c.loop-i.invariant.trail.schema at c.in_err-apply_numbered.ensures.err) in
    let p = err_from_is_err_and c.from_residual.result c.from_residual.ensures.1 in
    rw (p.1, p.2) stops

pub returns-in_err-apply_numbered-clause-trail : goal.returns-in_err-apply_numbered-clause-trail
returns-in_err-apply_numbered-clause-trail g c = keeps_then _ _ _ _ _ _ c.loop-i.invariant.trail c.apply_numbered.ensures.trail

pub loop-i-preserved : goal.loop-i-preserved
loop-i-preserved g c =
    let schema = g.R.RowStore.schema c.args.store.now in
    let calls = c.args.calls.now in
    let call = c.index-calls-i.result in
    let there : slice_get calls c.loop-i.i ≡ Some call = slice_get-get_or calls c.loop-i.i call c.loop-i-test.true ∙ ap Some (sym c.index-calls-i.is) in
    record {
      so_far = calls_more schema c.args.procedures.now calls (g.R.RowStore.tables c.args.store.now) (g.R.RowStore.tables c.loop-i.store) c.loop-i.i c.loop-i.invariant.so_far call there (passes_at _ calls c.loop-i.i call c.requires.form there) _
          (rw c.loop-i.invariant.trail.schema at c.in_ok-apply_numbered.ensures.ok);
      trail = keeps_then _ _ _ _ _ _ c.loop-i.invariant.trail c.apply_numbered.ensures.trail;
    }

pub returns-clause-ok : goal.returns-clause-ok
returns-clause-ok g c = calls_done (g.R.RowStore.schema c.args.store.now) c.args.procedures.now c.args.calls.now (g.R.RowStore.tables c.args.store.now) (g.R.RowStore.tables c.loop-i.store) c.loop-i.i c.loop-i.invariant.so_far c.loop-i-test.false

pub returns-clause-trail : goal.returns-clause-trail
returns-clause-trail g c = c.loop-i.invariant.trail
