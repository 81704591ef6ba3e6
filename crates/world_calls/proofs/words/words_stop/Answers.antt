-- The first call that is refused counts.
use Rattle.std.proofs.Common.{List, refl, sym, ap, arith, ◌∙◌}
use Rattle.std.proofs.lemmas.List.{drop_all}
use Rattle.script_parse.specs.declared.proc_line.CallWords.{CallWords}
use Rattle.world_state.specs.CallBlocks.{words_stop}
use Rattle.world_calls.proofs.CallWalk.{stops_here, goes_on, among_first}
use Rattle.world_calls.proofs.words.words_stop.Goals as goal

pub loop-call-init : goal.loop-call-init
loop-call-init c = record { few = omega arith; rest = refl }

pub returns-in-Some : goal.returns-in-Some
returns-in-Some c =
    stops_here c.args.site.now c.args.calls.now c.loop-call.call-index c.loop-call.number c.call-item.result c.loop-call-test.true c.call-item.is c.loop-call.invariant.rest c.in-Some.refusal (sym c.call_refusal.ensures ∙ c.in-Some.is)

pub loop-call-preserved : goal.loop-call-preserved
loop-call-preserved c =
    let passes = sym c.call_refusal.ensures ∙ c.in_default.is in
    record {
      few = among_first c.args.site.now c.loop-call.number c.call-item.result passes;
      rest = goes_on c.args.site.now c.args.calls.now c.loop-call.call-index c.loop-call.number c.call-item.result c.loop-call-test.true c.call-item.is c.loop-call.invariant.rest passes;
    }

pub returns : goal.returns
returns c =
    sym (ap (λ (left : List CallWords). words_stop c.args.site.now c.loop-call.number left) (drop_all c.loop-call.call-index c.args.calls.now c.loop-call-test.false)) ∙ c.loop-call.invariant.rest
