use Rattle.std.proofs.Common.{ap, ◌∙◌, Some}
use Rattle.site_engine.proofs.SiteSteps.{nothing_found, packet_found_is, sent_can}
use Rattle.site_engine.proofs.site.Site.packet.Goals as goal

pub returns-in_default : goal.returns-in_default
returns-in_default g c = rw (← c.self.view_is) (nothing_found _ _ _ _ _ _ c.self.inside.notes _ _ _ _ _ _ c.self.invariant c.args.to.now c.args.position c.in_default.ensures.sent)

pub seal_body-requires-clause-carries : goal.seal_body-requires-clause-carries
seal_body-requires-clause-carries g c =
    let can = sent_can _ _ _ _ _ _ c.self.inside.notes _ _ _ _ _ _ c.self.invariant c.args.to.now c.args.position _ _ _ _ c.in-Some.ensures.sent c.fitting_transactions_can_be_carried.ensures.plain in
    (_, _, record { body = c.in-Some.ensures.body; seen = can.1; plain = can.0 })

pub returns : goal.returns
returns g c =
    let can = sent_can _ _ _ _ _ _ c.self.inside.notes _ _ _ _ _ _ c.self.invariant c.args.to.now c.args.position _ _ _ _ c.in-Some.ensures.sent c.fitting_transactions_can_be_carried.ensures.plain in
    let sealed = c.in_ok-sealed.ensures _ _ (record { body = c.in-Some.ensures.body; seen = can.1; plain = can.0 }) in
    rw (← c.self.view_is) (ap Some sealed ∙ packet_found_is _ _ _ _ _ _ c.self.inside.notes _ _ _ _ _ _ c.self.invariant c.args.to.now c.args.position _ _ _ _ c.in-Some.ensures.sent)
