use Rattle.std.proofs.Common.{ap, subst, ◌∙◌, false}
use Rattle.site_gate.specs.Seen.{turns_in, own_turns, is_own}
use Rattle.site_gate.specs.Rule.{Agrees}
use Rattle.site_gate.proofs.Seen.{turns_in-seen_to, own_turns-seen_to_false, is_own-seen_to_false}
use Rattle.site_gate.proofs.Views.{tells_opening}
use Rattle.site_gate.proofs.gate.SiteGate.enter.Goals as goal

pub returns-clause-opening : goal.returns-clause-opening
returns-clause-opening g c =
    let told = g.T.Turns.opening c.take-value.result in
    tells_opening told c.args.pass.seat.me.0.opening c.args.pass.opened (subst (Agrees told) (ap (λ v. v.opening) c.draw-ticket.ensures.view) c.take-value.ensures.opening)

pub returns-clause-history : goal.returns-clause-history
returns-clause-history g c =
    let e = c.take-value.ensures in
    ap (λ v. turns_in v.seen) e.view ∙ turns_in-seen_to false c.draw-ticket.new.seat.me.0.seen (g.T.Turns.history c.take-value.result) e.seen

pub returns-clause-own : goal.returns-clause-own
returns-clause-own g c =
    let e = c.take-value.ensures in
    ap (λ v. own_turns v.seen) e.view
    ∙ (own_turns-seen_to_false c.draw-ticket.new.seat.me.0.seen (g.T.Turns.history c.take-value.result) e.seen ∙ ap (λ v. own_turns v.seen) c.draw-ticket.ensures.view)

pub returns-clause-places : goal.returns-clause-places
returns-clause-places g c = λ place.
    let e = c.take-value.ensures in
    ap (λ v. is_own v.seen place) e.view
    ∙ (is_own-seen_to_false c.draw-ticket.new.seat.me.0.seen (g.T.Turns.history c.take-value.result) place e.seen ∙ ap (λ v. is_own v.seen place) c.draw-ticket.ensures.view)
