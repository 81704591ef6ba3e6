-- What is taken in, one packet at a time.
use Rattle.std.proofs.Common.{◌≡◌, ℕ, ◌<◌, List, [], ◌∷◌, length, drop, true, false, Some, None, refl, sym, ap, ◌∙◌, subst}
use Rattle.std.specs.Prelude.{Option, option_map, is_some}
use Rattle.rep_values.specs.declared.name.SiteName.{SiteName}
use Rattle.packet_code.specs.declared.packet.Packet.{Packet}
use Rattle.net_plan.specs.Directions.{at_direction, on_way_between, first_between, delivered}
use Rattle.site_state.specs.State.{SiteState}
use Rattle.site_state.specs.Packets.{site_accept}
use Rattle.site_state.proofs.Changing.{accept_later}
use Rattle.site_events.specs.Cluster.{site_of, at_site}
use Rattle.event_laws.proofs.Sites.{at_split}
use Rattle.world_state.specs.World.{WorldState, is_there}
use Rattle.world_state.specs.Pushes.{taken_each, taken_one, world_deliver_one, world_send, world_send_each, world_deliver, positions_above, world_release, pushed_in}
use Rattle.world_laws.proofs.Calling.{on_way_between-delivered, deliver_one_then_all, deliver_none}
use Rattle.world.proofs.Going.{none_on_way, fewer_on_way}

-- nothing was on the way
pub take-none : (from to : SiteName) (w : WorldState) → None ≡ first_between from to w.net → record w { net = at_direction from to delivered w.net } ≡ world_deliver_one from to w
take-none from to w none = ap (λ (o : Option Packet). record w { sites = taken_one to o w.sites; net = at_direction from to delivered w.net }) none

-- a packet was
pub take-some : (from to : SiteName) (w : WorldState) (packet : Packet) (sites : List SiteState) → Some packet ≡ first_between from to w.net → sites ≡ at_site to (site_accept packet) w.sites
    → record w { sites = sites; net = at_direction from to delivered w.net } ≡ world_deliver_one from to w
take-some from to w packet sites some taken =
    ap (λ (xs : List SiteState). record w { sites = xs; net = at_direction from to delivered w.net }) taken
    ∙ ap (λ (o : Option Packet). record w { sites = taken_one to o w.sites; net = at_direction from to delivered w.net }) some

-- ---- all of them

-- once there was no packet to take in, all are
pub deliver-end : (from to : SiteName) (w : WorldState) → is_some (first_between from to w.net) ≡ false → world_deliver_one from to w ≡ world_deliver from to w
deliver-end from to w none = sym (deliver_none from to (world_deliver_one from to w) empty) ∙ deliver_one_then_all from to w
  where
    empty : on_way_between from to (at_direction from to delivered w.net) ≡ []
    empty = on_way_between-delivered from to w.net ∙ ap (λ (packets : List Packet). drop 1 packets) (none_on_way from to w.net none)

-- a packet that is taken in is no longer on the way
pub way-shorter : (from to : SiteName) (w y : WorldState) → y ≡ world_deliver_one from to w → is_some (first_between from to w.net) ≡ true
    → length (on_way_between from to y.net) < length (on_way_between from to w.net)
way-shorter from to w y is some =
    subst (λ (v : WorldState). length (on_way_between from to v.net) < length (on_way_between from to w.net)) (sym is) (fewer_on_way from to w.net some)

-- what remains to be taken in is the same
pub still-to_deliver : (from to : SiteName) (w y z : WorldState) → y ≡ world_deliver_one from to w → world_deliver from to w ≡ z → world_deliver from to y ≡ z
still-to_deliver from to w y z is same = ap (world_deliver from to) is ∙ deliver_one_then_all from to w ∙ same

-- ---- sites that are there stay

some_changed : (change : SiteState → SiteState) (o : Option SiteState) → is_some o ≡ true → is_some (option_map change o) ≡ true
some_changed change None some = some
some_changed change (Some x) some = refl

taken_there : (to name : SiteName) (packets : List Packet) (sites : List SiteState) → is_some (site_of name sites) ≡ true → is_some (site_of name (taken_each to packets sites)) ≡ true
taken_there to name [] sites there = there
taken_there to name (packet ∷ packets) sites there = taken_there to name packets (at_site to (site_accept packet) sites)
    (at_split (λ (o : Option SiteState). is_some o ≡ true) to name (site_accept packet) sites (λ x. (accept_later packet x).here) (λ same. some_changed (site_accept packet) (site_of name sites) there) there)

sent_sites : (from to : SiteName) (positions : List ℕ) (w : WorldState) → (world_send_each from to positions w).sites ≡ w.sites
sent_sites from to [] w = refl
sent_sites from to (position ∷ more) w = sent_sites from to more (world_send from to position w)

-- once all has come to the receiver, a site is there that was
pub pushed_there : (from to name : SiteName) (count : Option ℕ) (w : WorldState) → is_there w name ≡ true → is_there (pushed_in from to count w) name ≡ true
pushed_there from to name count w there =
    let sent : WorldState = world_send_each from to (positions_above from to count (world_release from to w)) (world_release from to w) in
    taken_there to name (on_way_between from to sent.net) sent.sites
    (subst (λ (sites : List SiteState). is_some (site_of name sites) ≡ true) (sym (sent_sites from to (positions_above from to count (world_release from to w)) (world_release from to w))) there)
