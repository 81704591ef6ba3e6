-- The words are tested first, and then the calls are made.
use Rattle.std.proofs.Common.{◌≡◌, None, Some, Ok, sym, ◌∙◌}
use Rattle.std.proofs.lemmas.Result.{on_ok_weaker, IfOk-weaker, IfErr-weaker}
use Rattle.proc_state.specs.Calling.{proc_call_answer}
use Rattle.world_state.specs.CallBlocks.{failed_stop, calls_stop, words_number}
use Rattle.world_calls.specs.Sending.{StopsSend}
use Rattle.world_calls.proofs.BlockCalls.{none_sent, words_stop_all, made_are, stop_all, made_pass, made_number, made_sent, no_calls, some_calls}
use Rattle.world_calls.proofs.sending.send_from.Goals as goal

pub returns-then-is_empty-clause-ok : goal.returns-then-is_empty-clause-ok
returns-then-is_empty-clause-ok c = (none_sent c.args.site.now c.args.calls.now c.args.to.now (no_calls _ _ c.is_empty.ensures c.if-is_empty.true)).0

pub returns-then-is_empty-clause-passes : goal.returns-then-is_empty-clause-passes
returns-then-is_empty-clause-passes c = (none_sent c.args.site.now c.args.calls.now c.args.to.now (no_calls _ _ c.is_empty.ensures c.if-is_empty.true)).1

pub returns-then-is_empty-clause-number : goal.returns-then-is_empty-clause-number
returns-then-is_empty-clause-number c = (none_sent c.args.site.now c.args.calls.now c.args.to.now (no_calls _ _ c.is_empty.ensures c.if-is_empty.true)).2

pub returns-in-Some-clause-err : goal.returns-in-Some-clause-err
returns-in-Some-clause-err c = words_stop_all c.args.site.now c.args.calls.now c.in-Some.stop (sym c.words_stop.ensures ∙ c.in-Some.is)

pub make_calls-requires : goal.make_calls-requires
make_calls-requires c =
    made_are c.args.site.now c.args.calls.now c.as_slice.result.now (c.as_slice.ensures ∙ c.in_ok-made.ensures) (some_calls _ _ c.is_empty.ensures c.if-is_empty.false) (sym c.words_stop.ensures ∙ c.in_default.is)

pub returns-clause-ok : goal.returns-clause-ok
returns-clause-ok c =
    on_ok_weaker c.make_calls.result
    (made_sent c.args.site.now c.args.calls.now c.as_slice.result.now (c.as_slice.ensures ∙ c.in_ok-made.ensures) (some_calls _ _ c.is_empty.ensures c.if-is_empty.false) (sym c.words_stop.ensures ∙ c.in_default.is)
    c.args.to.now c.as_slice-2.result.now c.make_calls.new.site (c.as_slice-2.ensures ∙ c.in_ok-masters.ensures))
    c.make_calls.ensures.ok

pub returns-clause-passes : goal.returns-clause-passes
returns-clause-passes c =
    IfOk-weaker c.make_calls.result (λ number. proc_call_answer c.as_slice.result.now c.args.site.now ≡ Ok number) (λ number. calls_stop c.args.site.now c.args.calls.now ≡ None)
    (made_pass c.args.site.now c.args.calls.now c.as_slice.result.now (c.as_slice.ensures ∙ c.in_ok-made.ensures) (some_calls _ _ c.is_empty.ensures c.if-is_empty.false) (sym c.words_stop.ensures ∙ c.in_default.is))
    c.make_calls.ensures.number

pub returns-clause-number : goal.returns-clause-number
returns-clause-number c =
    IfOk-weaker c.make_calls.result (λ number. proc_call_answer c.as_slice.result.now c.args.site.now ≡ Ok number) (λ number. number ≡ words_number c.args.calls.now (Some c.args.site.now))
    (made_number c.args.site.now c.args.calls.now c.as_slice.result.now (c.as_slice.ensures ∙ c.in_ok-made.ensures) (some_calls _ _ c.is_empty.ensures c.if-is_empty.false) (sym c.words_stop.ensures ∙ c.in_default.is))
    c.make_calls.ensures.number

pub returns-clause-err : goal.returns-clause-err
returns-clause-err c =
    IfErr-weaker c.make_calls.result (StopsSend (failed_stop (proc_call_answer c.as_slice.result.now c.args.site.now))) (StopsSend (calls_stop c.args.site.now c.args.calls.now))
    (stop_all c.args.site.now c.args.calls.now c.as_slice.result.now (c.as_slice.ensures ∙ c.in_ok-made.ensures) (some_calls _ _ c.is_empty.ensures c.if-is_empty.false) (sym c.words_stop.ensures ∙ c.in_default.is))
    c.make_calls.ensures.err
