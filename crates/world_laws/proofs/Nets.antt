-- What holds of the packets in a net, whatever is done with it.
use Rattle.std.proofs.Common.{◌≡◌, List, [], ◌∷◌, Bool, true, false, cond, Some, None, refl}
use Rattle.std.specs.Prelude.{Option}
use Rattle.std.specs.List.{AllByRecursion}
use Rattle.rep_lists.proofs.Each.{each_then, each_drop, all-append}
use Rattle.rep_values.specs.declared.name.SiteName.{SiteName}
use Rattle.packet_code.specs.declared.packet.Packet.{Packet}
use Rattle.net_plan.specs.declared.fate.Fate.{Fate}
use Rattle.net_plan.specs.declared.fate.Fate.TheVariants.{Pass, Lose, Twice, Late}
use Rattle.net_plan.specs.Directions.{Direction, is_between, direction_of, at_direction, first_of, first_in, first_between, on_way_in, on_way_between, released, delivered, next_fate, with_packet, with_fate_taken, with_sent, net_of}
use Rattle.world_state.specs.Pushes.{sent_on, emptied}
use Rattle.world_laws.specs.Streams.{NetCarries}

-- of each packet follows what follows of one
pub carries_then : (P Q : Packet → Type 0) → ((packet : Packet) → P packet → Q packet) → (net : List Direction) → AllByRecursion (NetCarries P) net → AllByRecursion (NetCarries Q) net
carries_then P Q follows net all =
    each_then (NetCarries P) (NetCarries Q) (λ d carries. record { held = each_then P Q follows d.held carries.held; on_way = each_then P Q follows d.on_way carries.on_way }) net all

module _ (P : Packet → Type 0) where
  -- what a change of one direction keeps
  pub at_keeps : (from to : SiteName) (change : Direction → Direction) (net : List Direction) → ((d : Direction) → NetCarries P d → NetCarries P (change d)) → AllByRecursion (NetCarries P) net
      → AllByRecursion (NetCarries P) (at_direction from to change net)
  at_keeps from to change [] keeps all = tt
  at_keeps from to change (d ∷ ds) keeps all = go (is_between from to d) (at_keeps from to change ds keeps all.1)
    where
      go : (b : Bool) → AllByRecursion (NetCarries P) (at_direction from to change ds) → AllByRecursion (NetCarries P) (cond b (change d ∷ ds) (d ∷ at_direction from to change ds))
      go true later = (keeps d all.0, all.1)
      go false later = (all.0, later)

  -- it holds of what is on the way
  pub way_has : (from to : SiteName) (net : List Direction) → AllByRecursion (NetCarries P) net → AllByRecursion P (on_way_between from to net)
  way_has from to [] all = tt
  way_has from to (d ∷ ds) all = go (is_between from to d) (way_has from to ds all.1)
    where
      go : (b : Bool) → AllByRecursion P (on_way_in (direction_of from to ds)) → AllByRecursion P (on_way_in (cond b (Some d) (direction_of from to ds)))
      go true later = all.0.on_way
      go false later = later

  head_has : (packets : List Packet) (packet : Packet) → AllByRecursion P packets → first_of packets ≡ Some packet → P packet
  head_has [] packet all is = absurd (cc is)
  head_has (one ∷ packets) packet all is = let same : one ≡ packet = cc is in rw (← same) all.0

  -- and of the one that is delivered next
  pub first_has : (from to : SiteName) (net : List Direction) (packet : Packet) → AllByRecursion (NetCarries P) net → first_between from to net ≡ Some packet → P packet
  first_has from to [] packet all is = absurd (cc is)
  first_has from to (d ∷ ds) packet all is = go (is_between from to d) is (first_has from to ds packet all.1)
    where
      go : (b : Bool) → first_in (cond b (Some d) (direction_of from to ds)) ≡ Some packet → (first_in (direction_of from to ds) ≡ Some packet → P packet) → P packet
      go true is later = head_has d.on_way packet all.0.on_way is
      go false is later = later is

  -- ---- what happens in a direction

  pub released_has : (d : Direction) → NetCarries P d → NetCarries P (released d)
  released_has d carries = record { held = tt; on_way = all-append P d.on_way d.held carries.on_way carries.held }

  pub emptied_has : (d : Direction) → NetCarries P d → NetCarries P (emptied d)
  emptied_has d carries = record { held = carries.held; on_way = tt }

  pub delivered_has : (d : Direction) → NetCarries P d → NetCarries P (delivered d)
  delivered_has d carries = record { held = carries.held; on_way = each_drop P 1 d.on_way carries.on_way }

  packet_has : (fate : Fate) (packet : Packet) (d : Direction) → P packet → NetCarries P d → NetCarries P (with_packet fate packet d)
  packet_has Pass packet d has carries = record { held = carries.held; on_way = all-append P d.on_way (packet ∷ []) carries.on_way (has, tt) }
  packet_has Lose packet d has carries = carries
  packet_has Twice packet d has carries = record { held = carries.held; on_way = all-append P d.on_way (packet ∷ packet ∷ []) carries.on_way (has, (has, tt)) }
  packet_has Late packet d has carries = record { held = all-append P d.held (packet ∷ []) carries.held (has, tt); on_way = carries.on_way }

  pub sent_has : (packet : Packet) (d : Direction) → P packet → NetCarries P d → NetCarries P (with_sent packet d)
  sent_has packet d has carries = go (next_fate d.fates) (packet_has (next_fate d.fates) packet d has carries)
    where
      go : (fate : Fate) → NetCarries P (with_packet fate packet d) → NetCarries P (with_fate_taken (with_packet fate packet d))
      go Pass carries = record { held = carries.held; on_way = carries.on_way }
      go Lose carries = record { held = carries.held; on_way = carries.on_way }
      go Twice carries = record { held = carries.held; on_way = carries.on_way }
      go Late carries = record { held = carries.held; on_way = carries.on_way }

  -- one packet is sent at most
  pub sent_on_has : (found : Option Packet) (from to : SiteName) (net : List Direction) → ((packet : Packet) → found ≡ Some packet → P packet) → AllByRecursion (NetCarries P) net → AllByRecursion (NetCarries P) (sent_on found from to net)
  sent_on_has None from to net has all = all
  sent_on_has (Some packet) from to net has all = at_keeps from to (with_sent packet) net (λ d carries. sent_has packet d (has packet refl) carries) all

  -- ---- at first nothing is carried

  pub new_has : (pairs : List (SiteName × SiteName)) → AllByRecursion (NetCarries P) (net_of pairs)
  new_has [] = tt
  new_has (pair ∷ pairs) = (record { held = tt; on_way = tt }, new_has pairs)
