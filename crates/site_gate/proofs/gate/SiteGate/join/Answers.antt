use Rattle.std.proofs.Common.{rules, ap, ◌∙◌}
use Rattle.site_gate.specs.Seen.{turns_in, is_own}
use Rattle.site_gate.proofs.Seen.{turns_in-joined, is_own-joined}
use Rattle.site_gate.proofs.Sharing.{joins}
use Rattle.site_gate.proofs.gate.SiteGate.join.Goals as goal

pub join_seat-requires : goal.join_seat-requires
join_seat-requires g c =
    (search rules, search rules, c.args.other.empty, search rules, joins g.T.Turns.history g.T.Turns.opening _ c.args.pass.now.seat.me.0 _ c.args.other.seat.me.0 c.args.pass.now.outside c.args.other.outside)

pub returns-clause-seen : goal.returns-clause-seen
returns-clause-seen g c = ap (λ me. turns_in me.0.seen) c.join_seat.ensures.2 ∙ turns_in-joined c.args.pass.now.seat.me.0.seen c.args.other.seat.me.0.seen

pub returns-clause-places : goal.returns-clause-places
returns-clause-places g c = λ place. ap (λ me. is_own me.0.seen place) c.join_seat.ensures.2 ∙ is_own-joined c.args.pass.now.seat.me.0.seen c.args.other.seat.me.0.seen place
