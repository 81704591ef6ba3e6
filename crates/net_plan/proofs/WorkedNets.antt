-- Calls of a net, worked out by hand.
use Rattle.std.proofs.Common.{◌≡◌, ℕ, zero, suc, true, false, List, [], ◌∷◌, ◌++◌, refl}
use Rattle.std.specs.Prelude.{codes}
use Rattle.rep_values.specs.declared.name.SiteName.{SiteName}
use Rattle.packet_code.specs.declared.packet.Packet.{Packet}
use Rattle.packet_code.specs.declared.packet.Packet.TheVariants.{Mark}
use Rattle.net_plan.specs.declared.fate.Fate.TheVariants.{Pass, Lose, Twice, Late}
use Rattle.net_plan.specs.Directions.{Direction, net_of, new_direction, is_up}
use Rattle.net_plan.specs.Calls.{NetCall, SetLink, AddFates, ClearFates, Release, Send, Deliver, after_each, delivered_in}

-- the site A
abbrev site_a : SiteName
site_a = record { 0 = codes "A" }

-- the site B
abbrev site_b : SiteName
site_b = record { 0 = codes "B" }

-- A and B, with a direction either way
abbrev net : List Direction
net = net_of ((site_a, site_b) ∷ (site_b, site_a) ∷ [])

-- a mark from A to B, for a packet
abbrev mark : ℕ → Packet
mark n = Mark site_a site_b n

-- three packets that are sent one after another
abbrev three_sends : List NetCall
three_sends = Send site_a site_b (mark 1) ∷ Send site_a site_b (mark 2) ∷ Send site_a site_b (mark 3) ∷ []

-- so many deliveries from A to B
abbrev deliveries : ℕ → List NetCall
deliveries zero = []
deliveries (suc n) = Deliver site_a site_b ∷ deliveries n

-- where no fate was given, packets are delivered in the order in which they were sent
pub delivered_in-no_fates : delivered_in site_a site_b (three_sends ++ deliveries 4) net ≡ mark 1 ∷ mark 2 ∷ mark 3 ∷ []
delivered_in-no_fates = refl

-- the first is lost, the second passes, the third comes twice
pub delivered_in-lose_pass_twice : delivered_in site_a site_b (AddFates site_a site_b (Lose ∷ Pass ∷ Twice ∷ []) ∷ three_sends ++ deliveries 4) net
    ≡ mark 2 ∷ mark 3 ∷ mark 3 ∷ []
delivered_in-lose_pass_twice = refl

-- a held packet stays behind, and comes behind what was sent later, once it is released
pub delivered_in-late : delivered_in site_a site_b (AddFates site_a site_b (Late ∷ []) ∷ three_sends ++ Release site_a site_b ∷ deliveries 4) net
    ≡ mark 2 ∷ mark 3 ∷ mark 1 ∷ []
delivered_in-late = refl

-- where it isn't released, it doesn't come
pub delivered_in-held : delivered_in site_a site_b (AddFates site_a site_b (Late ∷ []) ∷ three_sends ++ deliveries 4) net ≡ mark 2 ∷ mark 3 ∷ []
delivered_in-held = refl

-- what one direction has stands in no other one
pub delivered_in-back : delivered_in site_b site_a (three_sends ++ Deliver site_b site_a ∷ []) net ≡ []
delivered_in-back = refl

-- two held packets keep their order, clearing takes the fates and no packet, and the direction back is as it was
pub after_each-clear : after_each (AddFates site_a site_b (Late ∷ Late ∷ Lose ∷ []) ∷ Send site_a site_b (mark 1) ∷ Send site_a site_b (mark 2) ∷ ClearFates site_a site_b
    ∷ Send site_a site_b (mark 3) ∷ []) net
    ≡ record { from = site_a; to = site_b; up = true; fates = []; held = mark 1 ∷ mark 2 ∷ []; on_way = mark 3 ∷ [] } ∷ new_direction site_b site_a ∷ []
after_each-clear = refl

-- fates that come later stand behind those that are left, and a word changes nothing else
pub after_each-fates : after_each (AddFates site_a site_b (Pass ∷ Lose ∷ []) ∷ Send site_a site_b (mark 1) ∷ AddFates site_a site_b (Twice ∷ []) ∷ SetLink site_a site_b false ∷ []) net
    ≡ record { from = site_a; to = site_b; up = false; fates = Lose ∷ Twice ∷ []; held = []; on_way = mark 1 ∷ [] } ∷ new_direction site_b site_a ∷ []
after_each-fates = refl

-- a word is that of its own direction
pub is_up-set_link : (is_up site_a site_b (after_each (SetLink site_a site_b false ∷ []) net) ≡ false) × (is_up site_b site_a (after_each (SetLink site_a site_b false ∷ []) net) ≡ true)
is_up-set_link = (refl, refl)
