-- The links carry what was sent, whatever is done with them.
use Rattle.std.proofs.Common.{◌≡◌, suc, List, [], ◌∷◌, ◌++◌, drop, Bool, true, false, cond, Some, refl}
use Rattle.std.specs.Prelude.{◌&&◌}
use Rattle.std.specs.List.{AllByRecursion}
use Rattle.rep_values.specs.declared.name.SiteName.{SiteName}
use Rattle.rep_values.specs.SiteNames.{is_same_site}
use Rattle.deferred_queue.proofs.Sites.{is_same_site-true}
use Rattle.packet_code.specs.declared.packet.Packet.{Packet}
use Rattle.net_plan.specs.declared.fate.Fate.{Fate}
use Rattle.net_plan.specs.declared.fate.Fate.TheVariants.{Pass, Lose, Twice, Late}
use Rattle.net_plan.specs.Directions.{Direction, is_between, direction_of, at_direction, on_way_in, on_way_between, released, delivered, next_fate, with_packet, with_fate_taken, with_sent, net_of}
use Rattle.world_state.specs.Pushes.{emptied}
use Rattle.world_laws.specs.Simulation.{WasSent, CarriesSent}
use Rattle.rep_lists.proofs.Each.{all-append}

all_map : {X : Type 0} (P Q : X → Type 0) (xs : List X) → ((x : X) → P x → Q x) → AllByRecursion P xs → AllByRecursion Q xs
all_map P Q [] go all = tt
all_map P Q (x ∷ xs) go all = (go x all.0, all_map P Q xs go all.1)

-- ---- a packet more was sent

was_sent_more : (one other : Packet) (sent : List Packet) (to : SiteName) → WasSent sent to other → WasSent (one ∷ sent) to other
was_sent_more one other sent to was = record { goes = was.goes; which = suc was.which; is = was.is }

carries_more : (one : Packet) (sent : List Packet) (d : Direction) → CarriesSent sent d → CarriesSent (one ∷ sent) d
carries_more one sent d carries = record {
  held = all_map (WasSent sent d.to) (WasSent (one ∷ sent) d.to) d.held (λ other. was_sent_more one other sent d.to) carries.held;
  on_way = all_map (WasSent sent d.to) (WasSent (one ∷ sent) d.to) d.on_way (λ other. was_sent_more one other sent d.to) carries.on_way;
}

pub net_more : (one : Packet) (sent : List Packet) (net : List Direction) → AllByRecursion (CarriesSent sent) net → AllByRecursion (CarriesSent (one ∷ sent)) net
net_more one sent net all = all_map (CarriesSent sent) (CarriesSent (one ∷ sent)) net (carries_more one sent) all

-- ---- one direction of several

between_to : (from to : SiteName) (d : Direction) → is_between from to d ≡ true → d.to ≡ to
between_to from to d is = go (is_same_site d.from from) is
  where
    go : (b : Bool) → (b && is_same_site d.to to) ≡ true → d.to ≡ to
    go true is = is_same_site-true d.to to is
    go false is = absurd (cc is)

-- what a change of one direction keeps
pub at_carries : (sent : List Packet) (from to : SiteName) (change : Direction → Direction) (net : List Direction)
    → ((d : Direction) → d.to ≡ to → CarriesSent sent d → CarriesSent sent (change d)) → AllByRecursion (CarriesSent sent) net → AllByRecursion (CarriesSent sent) (at_direction from to change net)
at_carries sent from to change [] keeps all = tt
at_carries sent from to change (d ∷ ds) keeps all = go (is_between from to d) refl (at_carries sent from to change ds keeps all.1)
  where
    go : (b : Bool) → is_between from to d ≡ b → AllByRecursion (CarriesSent sent) (at_direction from to change ds)
        → AllByRecursion (CarriesSent sent) (cond b (change d ∷ ds) (d ∷ at_direction from to change ds))
    go true is later = (keeps d (between_to from to d is) all.0, all.1)
    go false is later = (all.0, later)

-- what is on the way to a site was sent to it
pub way_sent : (sent : List Packet) (from to : SiteName) (net : List Direction) → AllByRecursion (CarriesSent sent) net → AllByRecursion (WasSent sent to) (on_way_between from to net)
way_sent sent from to [] all = tt
way_sent sent from to (d ∷ ds) all = go (is_between from to d) refl (way_sent sent from to ds all.1)
  where
    own : d.to ≡ to → AllByRecursion (WasSent sent to) d.on_way
    own same = rw (← same) all.0.on_way

    go : (b : Bool) → is_between from to d ≡ b → AllByRecursion (WasSent sent to) (on_way_in (direction_of from to ds)) → AllByRecursion (WasSent sent to) (on_way_in (cond b (Some d) (direction_of from to ds)))
    go true is later = own (between_to from to d is)
    go false is later = later

-- ---- what happens in a direction

pub released_carries : (sent : List Packet) (d : Direction) → CarriesSent sent d → CarriesSent sent (released d)
released_carries sent d carries = record { held = tt; on_way = all-append (WasSent sent d.to) d.on_way d.held carries.on_way carries.held }

pub emptied_carries : (sent : List Packet) (d : Direction) → CarriesSent sent d → CarriesSent sent (emptied d)
emptied_carries sent d carries = record { held = carries.held; on_way = tt }

rest_sent : (sent : List Packet) (to : SiteName) (packets : List Packet) → AllByRecursion (WasSent sent to) packets → AllByRecursion (WasSent sent to) (drop 1 packets)
rest_sent sent to [] all = tt
rest_sent sent to (packet ∷ packets) all = all.1

pub delivered_carries : (sent : List Packet) (d : Direction) → CarriesSent sent d → CarriesSent sent (delivered d)
delivered_carries sent d carries = record { held = carries.held; on_way = rest_sent sent d.to d.on_way carries.on_way }

packet_carries : (sent : List Packet) (fate : Fate) (packet : Packet) (d : Direction) → WasSent sent d.to packet → CarriesSent sent d → CarriesSent sent (with_packet fate packet d)
packet_carries sent Pass packet d was carries = record { held = carries.held; on_way = all-append (WasSent sent d.to) d.on_way (packet ∷ []) carries.on_way (was, tt) }
packet_carries sent Lose packet d was carries = carries
packet_carries sent Twice packet d was carries = record { held = carries.held; on_way = all-append (WasSent sent d.to) d.on_way (packet ∷ packet ∷ []) carries.on_way (was, (was, tt)) }
packet_carries sent Late packet d was carries = record { held = all-append (WasSent sent d.to) d.held (packet ∷ []) carries.held (was, tt); on_way = carries.on_way }

pub sent_carries : (sent : List Packet) (packet : Packet) (to : SiteName) (d : Direction) → WasSent sent to packet → d.to ≡ to → CarriesSent sent d → CarriesSent sent (with_sent packet d)
sent_carries sent packet to d was same carries = go (next_fate d.fates) (packet_carries sent (next_fate d.fates) packet d (rw same was) carries)
  where
    go : (fate : Fate) → CarriesSent sent (with_packet fate packet d) → CarriesSent sent (with_fate_taken (with_packet fate packet d))
    go Pass carries = record { held = carries.held; on_way = carries.on_way }
    go Lose carries = record { held = carries.held; on_way = carries.on_way }
    go Twice carries = record { held = carries.held; on_way = carries.on_way }
    go Late carries = record { held = carries.held; on_way = carries.on_way }

-- ---- at first nothing is carried

pub new_carries : (sent : List Packet) (pairs : List (SiteName × SiteName)) → AllByRecursion (CarriesSent sent) (net_of pairs)
new_carries sent [] = tt
new_carries sent (pair ∷ pairs) = (record { held = tt; on_way = tt }, new_carries sent pairs)
