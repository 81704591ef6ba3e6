-- Calls of a net, one after another, and what they send and deliver.
use Rattle.std.specs.Prelude.{Bool, false, ◌&&◌, cond, List, [], ◌∷◌, ◌++◌, option_to_list}
use Rattle.rep_values.specs.declared.name.SiteName.{SiteName}
use Rattle.rep_values.specs.Name.{same_bytes}
use Rattle.packet_code.specs.declared.packet.Packet.{Packet}
use Rattle.net_plan.specs.declared.fate.Fate.{Fate}
use Rattle.net_plan.specs.Directions.{Direction, at_direction, with_link, with_fates, without_fates, released, with_sent, delivered, first_between}

-- what can be called on a net; a call that finds no memory changes nothing, and is none of these
pub data NetCall : Type 0 where
  SetLink : (from to : SiteName) → (up : Bool) → NetCall
  AddFates : (from to : SiteName) → (fates : List Fate) → NetCall
  ClearFates : (from to : SiteName) → NetCall
  Release : (from to : SiteName) → NetCall
  Send : (from to : SiteName) → (packet : Packet) → NetCall
  Deliver : (from to : SiteName) → NetCall

-- the net after a call
abbrev pub after : NetCall → List Direction → List Direction
after (SetLink from to up) net = at_direction from to (with_link up) net
after (AddFates from to fates) net = at_direction from to (with_fates fates) net
after (ClearFates from to) net = at_direction from to without_fates net
after (Release from to) net = at_direction from to released net
after (Send from to packet) net = at_direction from to (with_sent packet) net
after (Deliver from to) net = at_direction from to delivered net

-- the net after some calls
abbrev pub after_each : List NetCall → List Direction → List Direction
after_each [] net = net
after_each (call ∷ calls) net = after_each calls (after call net)

-- two pairs of sites are the same
abbrev pub is_same_pair : SiteName → SiteName → SiteName → SiteName → Bool
is_same_pair from to from' to' = same_bytes from.0 from'.0 && same_bytes to.0 to'.0

-- a call is on the direction from one site to another
abbrev pub is_call_between : SiteName → SiteName → NetCall → Bool
is_call_between from to (SetLink from' to' up) = is_same_pair from' to' from to
is_call_between from to (AddFates from' to' fates) = is_same_pair from' to' from to
is_call_between from to (ClearFates from' to') = is_same_pair from' to' from to
is_call_between from to (Release from' to') = is_same_pair from' to' from to
is_call_between from to (Send from' to' packet) = is_same_pair from' to' from to
is_call_between from to (Deliver from' to') = is_same_pair from' to' from to

-- a call gives fates to the packets from one site to another
abbrev pub gives_fates : SiteName → SiteName → NetCall → Bool
gives_fates from to (SetLink from' to' up) = false
gives_fates from to (AddFates from' to' fates) = is_same_pair from' to' from to
gives_fates from to (ClearFates from' to') = false
gives_fates from to (Release from' to') = false
gives_fates from to (Send from' to' packet) = false
gives_fates from to (Deliver from' to') = false

-- what a call sends from one site to another
abbrev pub sent_by : SiteName → SiteName → NetCall → List Packet
sent_by from to (SetLink from' to' up) = []
sent_by from to (AddFates from' to' fates) = []
sent_by from to (ClearFates from' to') = []
sent_by from to (Release from' to') = []
sent_by from to (Send from' to' packet) = cond (is_same_pair from' to' from to) (packet ∷ []) []
sent_by from to (Deliver from' to') = []

-- what a call delivers from one site to another
abbrev pub delivered_by : SiteName → SiteName → NetCall → List Direction → List Packet
delivered_by from to (SetLink from' to' up) net = []
delivered_by from to (AddFates from' to' fates) net = []
delivered_by from to (ClearFates from' to') net = []
delivered_by from to (Release from' to') net = []
delivered_by from to (Send from' to' packet) net = []
delivered_by from to (Deliver from' to') net = cond (is_same_pair from' to' from to) (option_to_list (first_between from' to' net)) []

-- what some calls send from one site to another, in order
abbrev pub sent_in : SiteName → SiteName → List NetCall → List Packet
sent_in from to [] = []
sent_in from to (call ∷ calls) = sent_by from to call ++ sent_in from to calls

-- what they deliver there, in order
abbrev pub delivered_in : SiteName → SiteName → List NetCall → List Direction → List Packet
delivered_in from to [] net = []
delivered_in from to (call ∷ calls) net = delivered_by from to call net ++ delivered_in from to calls (after call net)
