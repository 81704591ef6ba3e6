use Rattle.std.proofs.Common.{◌≡◌, Some, List, sym, ap, subst, ◌∙◌}
use Rattle.std.specs.Prelude.{Option, IfErr}
use Rattle.std.proofs.lemmas.Result.{on_ok_weaker, IfOk-weaker}
use Rattle.script_parse.specs.declared.proc_line.CallWords.{CallWords}
use Rattle.proc_state.specs.State.{ProcState}
use Rattle.world_state.specs.Procs.{proc_of}
use Rattle.world_state.specs.CallBlocks.{words_sent, words_number, calls_stop, stop_at_proc}
use Rattle.world.proofs.ProcPlaces.{proc_of-read, at_proc-written}
use Rattle.world.proofs.ProcSites.{at_proc-none}
use Rattle.world_calls.specs.Sending.{StopsSend}
use Rattle.world_calls.proofs.sending.send_block.Goals as goal

pub returns-in_default-clause-ok : goal.returns-in_default-clause-ok
returns-in_default-clause-ok c =
    sym (at_proc-none c.args.block.now.site (words_sent c.args.block.now.calls c.args.to.now) c.args.sites.now.items (ap (proc_of c.args.block.now.site) (sym c.deref.ensures.value) ∙ c.in_default.ensures))

pub returns-clause-ok : goal.returns-clause-ok
returns-clause-ok c =
    on_ok_weaker c.send_from.result (λ sent. at_proc-written _ _ _ _ _ c.deref.ensures.value c.in-Some.ensures c.index_mut.ensures.value (words_sent c.args.block.now.calls c.args.to.now) c.send_from.new.site
    (sent ∙ ap (λ (calls : List CallWords). words_sent calls c.args.to.now c.index_mut.result.now) c.as_slice.ensures))
    c.send_from.ensures.ok

pub returns-clause-passes : goal.returns-clause-passes
returns-clause-passes c =
    let there = proc_of-read _ _ _ _ _ c.deref.ensures.value c.in-Some.ensures c.index_mut.ensures.value in
    on_ok_weaker c.send_from.result (λ passes. ap (stop_at_proc c.args.block.now.calls) there ∙ ap (calls_stop c.index_mut.result.now) (sym c.as_slice.ensures) ∙ passes) c.send_from.ensures.passes

pub returns-clause-number : goal.returns-clause-number
returns-clause-number c =
    let there = proc_of-read _ _ _ _ _ c.deref.ensures.value c.in-Some.ensures c.index_mut.ensures.value in
    IfOk-weaker c.send_from.result (λ number. number ≡ words_number c.as_slice.result.now (Some c.index_mut.result.now))
    (λ number. number ≡ words_number c.args.block.now.calls (proc_of c.args.block.now.site c.args.sites.now.items))
    (λ number is. is ∙ ap (λ (calls : List CallWords). words_number calls (Some c.index_mut.result.now)) c.as_slice.ensures ∙ ap (words_number c.args.block.now.calls) (sym there))
    c.send_from.ensures.number

pub returns-clause-err : goal.returns-clause-err
returns-clause-err c =
    let there = proc_of-read _ _ _ _ _ c.deref.ensures.value c.in-Some.ensures c.index_mut.ensures.value in
    subst (λ (found : Option ProcState). IfErr c.send_from.result (StopsSend (stop_at_proc c.args.block.now.calls found))) (sym there)
    (subst (λ (calls : List CallWords). IfErr c.send_from.result (StopsSend (calls_stop c.index_mut.result.now calls))) c.as_slice.ensures c.send_from.ensures.err)
