use Rattle.std.proofs.Common.{rules, ap, sym, ◌∙◌, ◌∷◌, Some}
use Rattle.atomic_table.specs.Table.{rest}
use Rattle.site_gate.proofs.Entering.{looks}
use Rattle.site_gate.proofs.gate.SiteGate.take.Goals as goal

pub load-made-requires : goal.load-made-requires
load-made-requires g c =
    let waiting = ap (λ v. v.stage) c.loop.invariant.view ∙ c.requires.waiting in
    (search rules, search rules, looks g.T.Turns.history g.T.Turns.opening _ _ c.loop.seat.me (c.loop.invariant.held ∙ c.requires.empty) (c.args.ticket, waiting))

-- at the ticket's turn the seat holds the slot, with a value
pub exchange-requires : goal.exchange-requires
exchange-requires g c =
    let waiting = ap (λ v. v.stage) c.loop.invariant.view ∙ c.requires.waiting in
    let found = (c.load-made.ensures.2 c.args.ticket waiting).0 c.if-made-ticket.true in
    (search rules, (Some found.0, found.1 ∙ ap (λ held. (0, Some found.0) ∷ held) (sym (ap rest found.1))))
