use Rattle.std.proofs.Common.{rules, arith, ap, ◌∙◌}
use Rattle.site_gate.proofs.Entering.{draws}
use Rattle.site_gate.proofs.gate.SiteGate.draw.Goals as goal

pub compare_exchange-found-requires : goal.compare_exchange-found-requires
compare_exchange-found-requires g c =
    let outside = ap (λ v. v.stage) c.loop.invariant.view ∙ c.requires.outside in
    (search rules, search rules, draws g.T.Turns.history g.T.Turns.opening _ _ c.loop.seat.me c.peek-next.result outside (omega arith))
