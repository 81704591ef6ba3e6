-- What loops over packets and positions need: one packet at a time, one position at a time, and the test whether something is
-- ready; and the place of a site among the others.
use Rattle.std.proofs.Common.{◌≡◌, ℕ, suc, ◌+◌, ◌<◌, List, [], ◌∷◌, ◌++◌, drop, Bool, true, false, cond, Some, None, refl, sym, ap, arith, subst}
use Rattle.std.specs.Prelude.{◌&&◌, ◌||◌, not, slice_get, slice_set, Option}
use Rattle.std.specs.List.{AllByRecursion}
use Rattle.rep_values.specs.declared.name.SiteName.{SiteName}
use Rattle.rep_values.specs.SiteNames.{is_same_site}
use Rattle.packet_code.specs.declared.packet.Packet.{Packet}
use Rattle.net_plan.specs.Directions.{Direction, is_between, direction_of, at_direction, on_way_in, on_way_between, first_of, first_in, first_between, delivered}
use Rattle.site_state.specs.State.{SiteState}
use Rattle.site_events.specs.Cluster.{site_of, at_site}
use Rattle.world_state.specs.World.{WorldState}
use Rattle.world_state.specs.Pushes.{taken_each, taken_one, emptied, world_deliver_one, world_deliver, world_send, world_send_each}
use Rattle.world_laws.specs.Simulation.{WasSent, AreEvents}
use Rattle.world_laws.specs.Places.{site_place}
use Rattle.world_laws.proofs.Links.{at_carries, way_sent, delivered_carries}
use Rattle.world_laws.proofs.SiteSteps.{Runs, taken_runs}
use Rattle.world_laws.proofs.Pieces.{runs_lead, links_lead}

-- ---- deliveries, one by one

-- a delivery takes the first packet off the way
pub on_way_between-delivered : (from to : SiteName) (net : List Direction) → on_way_between from to (at_direction from to delivered net) ≡ drop 1 (on_way_between from to net)
on_way_between-delivered from to [] = refl
on_way_between-delivered from to (d ∷ ds) = go (is_between from to d) refl (on_way_between-delivered from to ds)
  where
    go : (b : Bool) → is_between from to d ≡ b → on_way_between from to (at_direction from to delivered ds) ≡ drop 1 (on_way_between from to ds)
        → on_way_between from to (cond b (delivered d ∷ ds) (d ∷ at_direction from to delivered ds)) ≡ drop 1 (on_way_in (cond b (Some d) (direction_of from to ds)))
    go true is later = rw is refl
    go false is later = rw is later

emptied-delivered : (from to : SiteName) (net : List Direction) → at_direction from to emptied (at_direction from to delivered net) ≡ at_direction from to emptied net
emptied-delivered from to [] = refl
emptied-delivered from to (d ∷ ds) = go (is_between from to d) refl (emptied-delivered from to ds)
  where
    go : (b : Bool) → is_between from to d ≡ b → at_direction from to emptied (at_direction from to delivered ds) ≡ at_direction from to emptied ds
        → at_direction from to emptied (cond b (delivered d ∷ ds) (d ∷ at_direction from to delivered ds)) ≡ cond b (emptied d ∷ ds) (d ∷ at_direction from to emptied ds)
    go true is later = rw is refl
    go false is later = rw is (ap (λ (xs : List Direction). d ∷ xs) later)

-- the packet that is delivered next is the first of those on the way
pub first_between-first : (from to : SiteName) (net : List Direction) → first_between from to net ≡ first_of (on_way_between from to net)
first_between-first from to net = go (direction_of from to net)
  where
    go : (o : Option Direction) → first_in o ≡ first_of (on_way_in o)
    go None = refl
    go (Some d) = refl

taken_each-one : (to : SiteName) (packets : List Packet) (sites : List SiteState) → taken_each to (drop 1 packets) (taken_one to (first_of packets) sites) ≡ taken_each to packets sites
taken_each-one to [] sites = refl
taken_each-one to (packet ∷ packets) sites = refl

-- a delivery leaves what all of them lead to
pub deliver_one_then_all : (from to : SiteName) (w : WorldState) → world_deliver from to (world_deliver_one from to w) ≡ world_deliver from to w
deliver_one_then_all from to w =
    rw (on_way_between-delivered from to w.net, emptied-delivered from to w.net, first_between-first from to w.net, taken_each-one to (on_way_between from to w.net) w.sites) refl

emptied-none : (from to : SiteName) (net : List Direction) → on_way_between from to net ≡ [] → at_direction from to emptied net ≡ net
emptied-none from to [] none = refl
emptied-none from to (d ∷ ds) none = go (is_between from to d) none (emptied-none from to ds)
  where
    own : d.on_way ≡ [] → emptied d ≡ d
    own none = ap (λ (packets : List Packet). record d { on_way = packets }) (sym none)

    go : (b : Bool) → on_way_in (cond b (Some d) (direction_of from to ds)) ≡ [] → (on_way_between from to ds ≡ [] → at_direction from to emptied ds ≡ ds)
        → cond b (emptied d ∷ ds) (d ∷ at_direction from to emptied ds) ≡ d ∷ ds
    go true none later = ap (λ (e : Direction). e ∷ ds) (own none)
    go false none later = ap (λ (xs : List Direction). d ∷ xs) (later none)

-- once nothing is on the way all has come
pub deliver_none : (from to : SiteName) (w : WorldState) → on_way_between from to w.net ≡ [] → world_deliver from to w ≡ w
deliver_none from to w none = rw (none, emptied-none from to w.net none) refl

-- one delivery is a list of events by itself, so what stops there is too
pub deliver_one_leads : (from to : SiteName) → AreEvents (world_deliver_one from to)
deliver_one_leads from to w v s = runs_lead w (world_deliver_one from to w) v s refl
    (at_carries v.sent from to delivered w.net (λ d same carries. delivered_carries v.sent d carries) s.net)
    (taken_one to (first_of packets) v.sites) (one packets (way_sent v.sent from to w.net s.net))
    (rw (first_between-first from to w.net) (ap (taken_one to (first_of packets)) (sym s.sites)))
  where
    packets : List Packet
    packets = on_way_between from to w.net

    one : (packets : List Packet) → AllByRecursion (WasSent v.sent to) packets → Runs v (taken_one to (first_of packets) v.sites)
    one [] all = record { events = []; sites = refl; sent = refl }
    one (packet ∷ packets) all = taken_runs to (packet ∷ []) v (all.0, tt)

-- a packet that is taken off the way and lost is no event
pub lose_leads : (from to : SiteName) → AreEvents (λ w. record w { net = at_direction from to delivered w.net })
lose_leads from to w v s = links_lead w (at_direction from to delivered w.net) v s (at_carries v.sent from to delivered w.net (λ d same carries. delivered_carries v.sent d carries) s.net)

-- ---- positions, one by one

pub send_more : (from to : SiteName) (position : ℕ) (positions : List ℕ) (w : WorldState) → world_send_each from to (positions ++ position ∷ []) w ≡ world_send from to position (world_send_each from to positions w)
send_more from to position [] w = refl
send_more from to position (one ∷ more) w = send_more from to position more (world_send from to one w)

-- ---- senders and rounds, one by one

-- ---- is something ready

-- ---- a site's place

-- a site is the one at its place
pub site_of-place : (name : SiteName) (xs : List SiteState) → site_of name xs ≡ slice_get xs (site_place name xs)
site_of-place name [] = refl
site_of-place name (y ∷ ys) = go (is_same_site y.here.site name) (site_of-place name ys)
  where
    go : (b : Bool) → site_of name ys ≡ slice_get ys (site_place name ys) → cond b (Some y) (site_of name ys) ≡ slice_get (y ∷ ys) (cond (not b) (1 + site_place name ys) 0)
    go true later = refl
    go false later = let one : 1 + site_place name ys ≡ suc (site_place name ys) = omega arith in rw one later

-- what changes at that place changes at the site
pub slice_set-place : (name : SiteName) (change : SiteState → SiteState) (xs : List SiteState) (x : SiteState) → slice_get xs (site_place name xs) ≡ Some x → slice_set xs (site_place name xs) (change x) ≡ at_site name change xs
slice_set-place name change [] x found = refl
slice_set-place name change (y ∷ ys) x found = go (is_same_site y.here.site name) found (slice_set-place name change ys x)
  where
    go : (b : Bool) → slice_get (y ∷ ys) (cond (not b) (1 + site_place name ys) 0) ≡ Some x → (slice_get ys (site_place name ys) ≡ Some x → slice_set ys (site_place name ys) (change x) ≡ at_site name change ys)
        → slice_set (y ∷ ys) (cond (not b) (1 + site_place name ys) 0) (change x) ≡ cond b (change y ∷ ys) (y ∷ at_site name change ys)
    go true found later = let same : y ≡ x = cc found in ap (λ (z : SiteState). change z ∷ ys) (sym same)
    go false found later =
        let one : 1 + site_place name ys ≡ suc (site_place name ys) = omega arith in
        rw one (ap (λ (zs : List SiteState). y ∷ zs) (later (subst (λ (k : ℕ). slice_get (y ∷ ys) k ≡ Some x) one found)))
