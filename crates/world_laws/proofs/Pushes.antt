-- After a push nothing is ready at the receiver.
use Rattle.std.proofs.Common.{◌≡◌, List, [], ◌∷◌, Bool, true, false, cond, Some, None, refl, sym, ap, ◌∙◌, subst}
use Rattle.std.specs.Prelude.{◌≢◌, Option}
use Rattle.rep_values.specs.declared.name.SiteName.{SiteName}
use Rattle.packet_code.specs.declared.packet.Packet.{Packet}
use Rattle.net_plan.specs.Directions.{on_way_between, is_up}
use Rattle.site_state.specs.State.{SiteState}
use Rattle.site_state.specs.Packets.{site_accept}
use Rattle.site_state.specs.Passes.{site_pass}
use Rattle.site_state.proofs.Changing.{accept_later}
use Rattle.site_events.specs.Cluster.{site_of, at_site}
use Rattle.event_laws.proofs.Sites.{KeepsHere}
use Rattle.world_state.specs.World.{WorldState}
use Rattle.site_state.specs.Rounds.{site_until_quiet, NothingReady}
use Rattle.world_state.specs.Pushes.{taken_each, world_until_quiet, world_send_mark, world_release, world_deliver_mark, world_return_mark, pushed_in}
use Rattle.world_laws.specs.Worlds.{PushesLeaveNothingReady}
use Rattle.world_laws.proofs.Finding.{at_none, of_at, of_other}
use Rattle.world_laws.proofs.SiteSteps.{until_quiet_does}
use Rattle.event_laws.proofs.RoundsEnd.{rounds_leave_nothing}

taken_other : (name other : SiteName) (packets : List Packet) (xs : List SiteState) → name ≢ other → site_of other (taken_each name packets xs) ≡ site_of other xs
taken_other name other [] xs off = refl
taken_other name other (packet ∷ packets) xs off = taken_other name other packets (at_site name (site_accept packet) xs) off ∙ of_other name other (site_accept packet) xs (λ x. (accept_later packet x).here) off

-- the mark's way back changes nothing at the receiver
answer_other : (to from : SiteName) (w : WorldState) → from ≢ to → site_of to (world_return_mark to from w).sites ≡ site_of to w.sites
answer_other to from w off = go (is_up to from w.net)
  where
    brought : site_of to (world_deliver_mark to from w).sites ≡ site_of to w.sites
    brought = taken_other from to (on_way_between to from (world_send_mark to from (world_release to from w)).net) w.sites off

    go : (b : Bool) → site_of to (cond b (world_deliver_mark to from w) w).sites ≡ site_of to w.sites
    go true = brought
    go false = refl

-- what is found at a site that changed is changed
changed : (P : SiteState → Type 0) (name : SiteName) (f : SiteState → SiteState) (xs : List SiteState) (x : SiteState) → KeepsHere f → ((y : SiteState) → P (f y)) → site_of name (at_site name f xs) ≡ Some x → P x
changed P name f xs x keeps all found = go (site_of name xs) refl
  where
    go : (o : Option SiteState) → site_of name xs ≡ o → P x
    go None is = let none : site_of name (at_site name f xs) ≡ None = ap (site_of name) (at_none name f xs is) ∙ is in absurd (cc (none, found))
    go (Some y) is = let some = of_at name f xs y keeps is in let same : f y ≡ x = cc (some, found) in subst P same (all y)

pub pushes_leave_nothing_ready : PushesLeaveNothingReady
pushes_leave_nothing_ready from to count w x off found =
    changed NothingReady to (site_until_quiet from) (pushed_in from to count w).sites x (until_quiet_does to from).keeps (λ y. rounds_leave_nothing (site_pass from y))
    (sym (answer_other to from (world_until_quiet from to (pushed_in from to count w)) off) ∙ found)
