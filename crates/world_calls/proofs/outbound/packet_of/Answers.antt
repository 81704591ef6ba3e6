use Rattle.std.proofs.Common.{refl, sym, ap, ◌∙◌}
use Rattle.world_state.specs.CallPushes.{calls_from}
use Rattle.world.proofs.ProcPlaces.{proc_of-read}
use Rattle.world_calls.proofs.outbound.packet_of.Goals as goal

pub returns-in_default : goal.returns-in_default
returns-in_default c = ap (calls_from c.args.to.now c.args.position) (sym c.in_default.ensures)

pub returns : goal.returns
returns c =
    let there = proc_of-read c.args.from.now c.args.sites.now c.args.sites.now _ _ refl c.in-Some.ensures c.index-sites-place.is in
    c.in_ok-packet.ensures ∙ ap (calls_from c.args.to.now c.args.position) (sym there)
