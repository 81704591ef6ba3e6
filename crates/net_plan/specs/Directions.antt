-- The directions of a net, what stands in each, and what a call does there.
use Rattle.std.specs.Prelude.{◌≢◌, ℕ, suc, Bool, true, false, ◌&&◌, cond, List, [], ◌∷◌, ◌++◌, drop, map, Option, Some, None}
use Rattle.std.specs.List.{find}
use Rattle.rep_values.specs.declared.name.SiteName.{SiteName}
use Rattle.rep_values.specs.Name.{same_bytes}
use Rattle.packet_code.specs.declared.packet.Packet.{Packet}
use Rattle.net_plan.specs.declared.fate.Fate.{Fate}
use Rattle.net_plan.specs.declared.fate.Fate.TheVariants.{Pass, Lose, Twice, Late}

-- the way from one site to another: whether it is up, the fates of the packets to come, the packets that are held, and those
-- on the way, the first of each in front
pub record Direction : Type 0 where
  pub from : SiteName
  pub to : SiteName
  pub up : Bool
  pub fates : List Fate
  pub held : List Packet
  pub on_way : List Packet

-- ---- what happens in a direction

-- at first it is up, and empty
abbrev pub new_direction : SiteName → SiteName → Direction
new_direction from to = record { from = from; to = to; up = true; fates = []; held = []; on_way = [] }

-- the word up or down is set
abbrev pub with_link : Bool → Direction → Direction
with_link up d = record d { up = up }

-- fates come behind those that are left
abbrev pub with_fates : List Fate → Direction → Direction
with_fates fates d = record d { fates = d.fates ++ fates }

-- no fate is left
abbrev pub without_fates : Direction → Direction
without_fates d = record d { fates = [] }

-- the next fate, where one is left; else a packet passes
abbrev pub next_fate : List Fate → Fate
next_fate [] = Pass
next_fate (fate ∷ fates) = fate

-- the next fate is taken, where one is left
abbrev pub with_fate_taken : Direction → Direction
with_fate_taken d = record d { fates = drop 1 d.fates }

-- a packet is on the way once, nowhere, on the way twice, or held, as its fate says
abbrev pub with_packet : Fate → Packet → Direction → Direction
with_packet Pass packet d = record d { on_way = d.on_way ++ packet ∷ [] }
with_packet Lose packet d = d
with_packet Twice packet d = record d { on_way = d.on_way ++ packet ∷ packet ∷ [] }
with_packet Late packet d = record d { held = d.held ++ packet ∷ [] }

-- a packet is sent, and takes the next fate
abbrev pub with_sent : Packet → Direction → Direction
with_sent packet d = with_fate_taken (with_packet (next_fate d.fates) packet d)

-- the held packets go on the way, behind those that are there
abbrev pub released : Direction → Direction
released d = record d { held = []; on_way = d.on_way ++ d.held }

-- the first of some packets, if there is one
abbrev pub first_of : List Packet → Option Packet
first_of [] = None
first_of (packet ∷ packets) = Some packet

-- the packet that is delivered next, if there is one
abbrev pub first_on_way : Direction → Option Packet
first_on_way d = first_of d.on_way

-- the first packet on the way is delivered
abbrev pub delivered : Direction → Direction
delivered d = record d { on_way = drop 1 d.on_way }

-- ---- one direction of several

-- whether this is the direction from one site to another
abbrev pub is_between : SiteName → SiteName → Direction → Bool
is_between from to d = same_bytes d.from.0 from.0 && same_bytes d.to.0 to.0

-- the direction from one site to another, the first one where there are two
abbrev pub direction_of : SiteName → SiteName → List Direction → Option Direction
direction_of from to net = find (is_between from to) net

-- that direction changes, and the others stay
abbrev pub at_direction : SiteName → SiteName → (Direction → Direction) → List Direction → List Direction
at_direction from to change [] = []
at_direction from to change (d ∷ ds) = cond (is_between from to d) (change d ∷ ds) (d ∷ at_direction from to change ds)

-- its place among the directions, from 0; their end where it isn't there
abbrev pub place_between : SiteName → SiteName → List Direction → ℕ
place_between from to [] = 0
place_between from to (d ∷ ds) = cond (is_between from to d) 0 (suc (place_between from to ds))

-- ---- a net

-- a new direction for each pair of sites
abbrev pub net_of : List (SiteName × SiteName) → List Direction
net_of pairs = map (λ (pair : SiteName × SiteName). new_direction pair.0 pair.1) pairs

-- there is a direction from one site to another
abbrev pub HasDirection : List Direction → SiteName → SiteName → Type 0
HasDirection net from to = direction_of from to net ≢ None

abbrev pub is_up_in : Option Direction → Bool
is_up_in None = false
is_up_in (Some d) = d.up

-- the direction from one site to another is up
abbrev pub is_up : SiteName → SiteName → List Direction → Bool
is_up from to net = is_up_in (direction_of from to net)

abbrev pub first_in : Option Direction → Option Packet
first_in None = None
first_in (Some d) = first_on_way d

-- the packet that is delivered next from one site to another, if there is one
abbrev pub first_between : SiteName → SiteName → List Direction → Option Packet
first_between from to net = first_in (direction_of from to net)

abbrev pub on_way_in : Option Direction → List Packet
on_way_in None = []
on_way_in (Some d) = d.on_way

-- the packets on the way from one site to another
abbrev pub on_way_between : SiteName → SiteName → List Direction → List Packet
on_way_between from to net = on_way_in (direction_of from to net)
