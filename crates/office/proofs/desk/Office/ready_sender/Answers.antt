-- Sender by sender.
use Rattle.std.proofs.Common.{◌≡◌, ◌+◌, ◌≤◌, length, None, sym, ◌∙◌, subst, arith}
use Rattle.site_state.specs.State.{SiteState}
use Rattle.site_state.specs.Ready.{first_ready}
use Rattle.office.proofs.QuietSites.{AreQuietBefore, none_where, quiet_from, quiet_next, all_quiet}
use Rattle.office.proofs.desk.Office.ready_sender.Goals as goal

pub loop-place-preserved : goal.loop-place-preserved
loop-place-preserved c =
    let x : SiteState = c.self.inside.site in
    let place = c.loop-place.place in
    let origin = c.in-Some.origin.now in
    let none : first_ready origin 0 x ≡ None = sym c.lowest_ready.ensures ∙ none_where c.lowest_ready.result (sym c.is_some.ensures ∙ c.if-is_some.false) in
    subst (AreQuietBefore (place + 1)) c.self.view_is
    (quiet_next x place origin (sym c.in-Some.ensures) (quiet_from origin x c.arrivals_are_from_one.ensures none) (subst (AreQuietBefore place) (sym c.self.view_is) c.loop-place.invariant))

pub returns : goal.returns
returns c =
    let past : length c.self.inside.site.senders ≤ c.loop-place.place = omega (arith, c.sender_count-place-end.ensures, c.loop-place-test.false) in
    all_quiet c.args.self.now c.loop-place.place (subst (λ (x : SiteState). length x.senders ≤ c.loop-place.place) c.self.view_is past) c.loop-place.invariant
