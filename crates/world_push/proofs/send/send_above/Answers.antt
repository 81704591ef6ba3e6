-- Sending position by position.
use Rattle.std.proofs.Common.{◌+◌, refl, sym, ap, ◌∙◌}
use Rattle.std.specs.Prelude.{length}
use Rattle.std.specs.List.{range_with_len}
use Rattle.std.proofs.lemmas.List.FromFn.{length-range_with_len}
use Rattle.site_events.specs.Cluster.{site_of}
use Rattle.world_state.specs.World.{WorldState}
use Rattle.world_state.specs.Pushes.{positions_in}
use Rattle.world.proofs.Following.{in_part_linked}
use Rattle.world_push.proofs.Sending.{send_each-more, sent_in_part}
use Rattle.world_push.proofs.send.send_above.Goals as goal

pub loop-sent-init : goal.loop-sent-init
loop-sent-init c = refl

pub send-requires : goal.send-requires
send-requires c =
    let from = c.args.from.now in
    let to = c.args.to.now in
    let w = c.args.parts.now in
    let positions = range_with_len (c.unsent_of-unsent.result.acked + 1) c.loop-sent.sent in
    in_part_linked from to from to w _ (sent_in_part from to positions w _ c.loop-sent.invariant) c.requires

pub returns-in_err-send-clause-part : goal.returns-in_err-send-clause-part
returns-in_err-send-clause-part c =
    let positions = range_with_len (c.unsent_of-unsent.result.acked + 1) c.loop-sent.sent in
    sent_in_part c.args.from.now c.args.to.now positions c.args.parts.now _ (c.in_err-send.ensures.err ∙ c.loop-sent.invariant)

pub loop-sent-preserved : goal.loop-sent-preserved
loop-sent-preserved c = c.in_ok-send.ensures.ok ∙ send_each-more c.args.from.now c.args.to.now _ c.loop-sent.sent _ _ c.loop-sent.parts c.loop-sent.invariant refl

pub returns-clause-sent : goal.returns-clause-sent
returns-clause-sent c =
    let from = c.args.from.now in
    let to = c.args.to.now in
    let sites = c.deref.ensures.value ∙ ap (λ (v : WorldState). v.sites) c.parts.view_is in
    sym (ap length (ap (λ xs. positions_in to c.args.count (site_of from xs)) (sym sites) ∙ c.unsent_of-unsent.ensures) ∙ length-range_with_len _ _)

pub returns-clause-part : goal.returns-clause-part
returns-clause-part c =
    let positions = range_with_len (c.unsent_of-unsent.result.acked + 1) c.loop-sent.sent in
    sent_in_part c.args.from.now c.args.to.now positions c.args.parts.now _ c.loop-sent.invariant
