-- What holds of every list of calls of a net.
use Rattle.std.specs.Prelude.{◌≡◌, false, List, ◌++◌, Contains}
use Rattle.std.specs.List.{AllByRecursion}
use Rattle.rep_values.specs.declared.name.SiteName.{SiteName}
use Rattle.packet_code.specs.declared.packet.Packet.{Packet}
use Rattle.net_plan.specs.Directions.{Direction, net_of, direction_of, HasDirection, on_way_between}
use Rattle.net_plan.specs.Calls.{NetCall, after, after_each, is_call_between, gives_fates, sent_in, delivered_in}

-- what is delivered in a direction was sent in it; as this holds of all the calls up to a delivery, it was sent before
abbrev pub DeliveredWasSent : Type 0
DeliveredWasSent = (pairs : List (SiteName × SiteName)) (calls : List NetCall) (from to : SiteName) (packet : Packet)
    → Contains (delivered_in from to calls (net_of pairs)) packet → Contains (sent_in from to calls) packet

-- where no fates are given, what was delivered and then what is on the way is what was sent, in its order
abbrev pub PassesInOrder : Type 0
PassesInOrder = (pairs : List (SiteName × SiteName)) (calls : List NetCall) (from to : SiteName)
    → HasDirection (net_of pairs) from to → AllByRecursion (λ call. gives_fates from to call ≡ false) calls
    → delivered_in from to calls (net_of pairs) ++ on_way_between from to (after_each calls (net_of pairs)) ≡ sent_in from to calls

-- a pair that was given keeps its direction
abbrev pub GivenPairsStay : Type 0
GivenPairsStay = (pairs : List (SiteName × SiteName)) (calls : List NetCall) (from to : SiteName)
    → Contains pairs (from, to) → HasDirection (after_each calls (net_of pairs)) from to

-- a call changes its own direction alone
abbrev pub OtherDirectionsStay : Type 0
OtherDirectionsStay = (net : List Direction) (call : NetCall) (from to : SiteName)
    → is_call_between from to call ≡ false → direction_of from to (after call net) ≡ direction_of from to net
