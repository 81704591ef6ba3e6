use Rattle.std.proofs.Common.{refl, ap, ◌∙◌, ◌-◌}
use Rattle.world.proofs.ProcPlaces.{proc_of-read}
use Rattle.world_calls.proofs.SentCalls.{positions_of-there}
use Rattle.world_calls.proofs.outbound.unsent_of.Goals as goal

pub returns : goal.returns
returns c =
    positions_of-there c.args.to.now _ c.index-sites-place.result c.acked-acked.result _
    (proc_of-read c.args.from.now c.args.sites.now c.args.sites.now c.in-Some.place _ refl c.in-Some.ensures c.index-sites-place.is)
    c.acked-acked.ensures
    (c.saturating_sub.ensures ∙ ap (λ last. last - c.acked-acked.result) c.last.ensures)
