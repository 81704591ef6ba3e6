-- Sending position by position.
use Rattle.std.proofs.Common.{◌+◌, refl, sym, ap, ◌∙◌}
use Rattle.std.specs.Prelude.{length}
use Rattle.std.specs.List.{range_with_len}
use Rattle.std.proofs.lemmas.List.FromFn.{length-range_with_len}
use Rattle.world_state.specs.Procs.{Procs, proc_of}
use Rattle.world_state.specs.CallPushes.{positions_of}
use Rattle.world.proofs.CallsFollowing.{calls_part_linked}
use Rattle.world_calls.proofs.SentCalls.{calls_each-more, calls_sent_in_part}
use Rattle.world_calls.proofs.outbound.send_above.Goals as goal

pub loop-sent-init : goal.loop-sent-init
loop-sent-init c = refl

pub send-requires : goal.send-requires
send-requires c =
    let from = c.args.from.now in
    let to = c.args.to.now in
    let p = c.args.procs.now in
    let positions = range_with_len (c.unsent_of-unsent.result.acked + 1) c.loop-sent.sent in
    calls_part_linked from to from to p _ (calls_sent_in_part from to positions p _ c.loop-sent.invariant) c.requires

pub returns-in_err-send-clause-part : goal.returns-in_err-send-clause-part
returns-in_err-send-clause-part c =
    let positions = range_with_len (c.unsent_of-unsent.result.acked + 1) c.loop-sent.sent in
    calls_sent_in_part c.args.from.now c.args.to.now positions c.args.procs.now _ (c.in_err-send.ensures.err ∙ c.loop-sent.invariant)

pub loop-sent-preserved : goal.loop-sent-preserved
loop-sent-preserved c = c.in_ok-send.ensures.ok ∙ calls_each-more c.args.from.now c.args.to.now _ c.loop-sent.sent _ _ c.loop-sent.procs c.loop-sent.invariant refl

pub returns-clause-sent : goal.returns-clause-sent
returns-clause-sent c =
    let from = c.args.from.now in
    let to = c.args.to.now in
    let sites = c.deref.ensures.value ∙ ap (λ (p : Procs). p.sites) c.procs.view_is in
    sym (ap length (ap (λ xs. positions_of to (proc_of from xs)) (sym sites) ∙ c.unsent_of-unsent.ensures) ∙ length-range_with_len _ _)

pub returns-clause-part : goal.returns-clause-part
returns-clause-part c =
    let positions = range_with_len (c.unsent_of-unsent.result.acked + 1) c.loop-sent.sent in
    calls_sent_in_part c.args.from.now c.args.to.now positions c.args.procs.now _ c.loop-sent.invariant
