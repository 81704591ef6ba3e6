use Rattle.std.proofs.Common.{rules, ap, ◌∙◌, false}
use Rattle.site_gate.specs.Seen.{turns_in, own_turns, is_own}
use Rattle.site_gate.proofs.Seen.{turns_in-marked, own_turns-marked_false, is_own-marked_false}
use Rattle.site_gate.proofs.Sharing.{splits}
use Rattle.site_gate.proofs.gate.SiteGate.split.Goals as goal

pub split_seat-seat-requires : goal.split_seat-seat-requires
split_seat-seat-requires g c = (search rules, search rules, splits g.T.Turns.history g.T.Turns.opening _ c.args.pass.now.seat.me.0)

pub returns-clause-seen : goal.returns-clause-seen
returns-clause-seen g c = ap (λ me. turns_in me.0.seen) c.split_seat-seat.ensures.4 ∙ turns_in-marked false (turns_in c.args.pass.now.seat.me.0.seen)

pub returns-clause-own : goal.returns-clause-own
returns-clause-own g c = ap (λ me. own_turns me.0.seen) c.split_seat-seat.ensures.4 ∙ own_turns-marked_false (turns_in c.args.pass.now.seat.me.0.seen)

pub returns-clause-places : goal.returns-clause-places
returns-clause-places g c = λ place. ap (λ me. is_own me.0.seen place) c.split_seat-seat.ensures.4 ∙ is_own-marked_false (turns_in c.args.pass.now.seat.me.0.seen) place
