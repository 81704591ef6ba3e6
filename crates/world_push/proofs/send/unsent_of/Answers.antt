use Rattle.std.proofs.Common.{refl, ap, ◌∙◌, ◌-◌}
use Rattle.deferred_queue.specs.Streams.{acked_by}
use Rattle.world_state.specs.Pushes.{at_most}
use Rattle.world.proofs.Written.{site_of-read}
use Rattle.world_push.proofs.Sending.{positions_in-there}
use Rattle.world_push.proofs.send.unsent_of.Goals as goal

pub returns : goal.returns
returns c =
    positions_in-there c.args.to.now c.args.count _ c.index-sites-place.result c.acked-acked.result c.at_most.result
    (site_of-read c.args.from.now c.args.sites.now c.args.sites.now c.in-Some.place _ refl c.in-Some.ensures c.index-sites-place.is)
    (c.acked-acked.ensures ∙ ap (acked_by c.args.to.now) c.queue.ensures.marks)
    (c.at_most.ensures.is ∙ ap (at_most c.args.count) (c.saturating_sub-waiting.ensures ∙ ap (λ last. last - c.acked-acked.result) c.last_sent.ensures))
