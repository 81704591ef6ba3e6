use Rattle.std.proofs.Common.{◌≡◌, Some, sym, ◌∙◌}
use Rattle.live_laws.specs.Turns.{applied_turn}
use Rattle.live_streams.proofs.Newest.{newest_is_its_turn}
use Rattle.live_streams.proofs.Crews.{told_alike}
use Rattle.live_streams.proofs.turns.apply_ready.Goals as goal

pub unreachable-requires : goal.unreachable-requires
unreachable-requires g c =
    let told : c.newest_turn.result ≡ Some (applied_turn c.args.origin.now c.args.position c.args.site.now)
    = newest_is_its_turn c.args.origin.now c.args.position c.args.site.now c.apply_one.new.self c.newest_turn.result c.requires c.in_ok-apply_one.ensures.ok c.newest_turn.ensures in
    cc (told, c.in-None.is)

pub returns-clause-turn : goal.returns-clause-turn
returns-clause-turn g c =
    told_alike _ _ (sym c.in-Some.is
    ∙ newest_is_its_turn c.args.origin.now c.args.position c.args.site.now c.apply_one.new.self c.newest_turn.result c.requires c.in_ok-apply_one.ensures.ok c.newest_turn.ensures)
