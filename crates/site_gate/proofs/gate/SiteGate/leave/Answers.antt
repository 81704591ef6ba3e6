use Rattle.std.proofs.Common.{ap, sym, ◌∙◌, ◌∷◌, [], ◌||◌, ◌==◌, true}
use Rattle.site_gate.specs.Seen.{turns_in, own_turns, is_own}
use Rattle.site_gate.proofs.Seen.{turns_in-seen_to, own_turns-seen_to_true, is_own-seen_to_true, length-turns_in}
use Rattle.site_gate.proofs.gate.SiteGate.leave.Goals as goal

pub returns-clause-seen : goal.returns-clause-seen
returns-clause-seen g c =
    let one = c.requires.one in
    ap (λ v. turns_in v.seen) c.put_back.ensures.view ∙ turns_in-seen_to true c.args.turn.seat.me.0.seen (g.T.Turns.history c.args.turn.value) (one.0 ∷ [], one.1)

pub returns-clause-own : goal.returns-clause-own
returns-clause-own g c = λ done is.
    ap (λ v. own_turns v.seen) c.put_back.ensures.view ∙ own_turns-seen_to_true c.args.turn.seat.me.0.seen (g.T.Turns.history c.args.turn.value) done is

pub returns-clause-places : goal.returns-clause-places
returns-clause-places g c = λ place.
    let seen = c.args.turn.seat.me.0.seen in
    let one = c.requires.one in
    ap (λ v. is_own v.seen place) c.put_back.ensures.view
    ∙ (is_own-seen_to_true seen (g.T.Turns.history c.args.turn.value) one.0 place one.1 ∙ ap (λ n. is_own seen place || place == n) (sym (length-turns_in seen)))
