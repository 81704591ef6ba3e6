-- A push, piece by piece.
use Rattle.std.specs.Prelude.{ℕ, ◌+◌, ◌-◌, min, cond, List, [], ◌∷◌, length, Option, Some, None}
use Rattle.std.specs.List.{range_with_len}
use Rattle.rep_values.specs.declared.name.SiteName.{SiteName}
use Rattle.packet_code.specs.declared.packet.Packet.{Packet}
use Rattle.net_plan.specs.Directions.{Direction, at_direction, is_up, first_between, on_way_between, released, with_sent, delivered}
use Rattle.site_state.specs.State.{SiteState, acked_of}
use Rattle.site_state.specs.Streams.{stream_to}
use Rattle.site_state.specs.Packets.{site_accept}
use Rattle.site_events.specs.Cluster.{site_of, at_site}
use Rattle.site_events.specs.Events.{packet_from, mark_from}
use Rattle.world_state.specs.World.{WorldState, with_site}
use Rattle.site_state.specs.Rounds.{site_until_quiet}

-- ---- what is sent

-- what is held from a site to another one goes on the way
abbrev pub world_release : SiteName → SiteName → WorldState → WorldState
world_release from to w = record w { net = at_direction from to released w.net }

abbrev pub sent_on : Option Packet → SiteName → SiteName → List Direction → List Direction
sent_on None from to net = net
sent_on (Some packet) from to net = at_direction from to (with_sent packet) net

-- the packet of a position is sent, where there is one
abbrev pub world_send : SiteName → SiteName → ℕ → WorldState → WorldState
world_send from to position w = record w { net = sent_on (packet_from to position (site_of from w.sites)) from to w.net }

-- those of some positions are, in their order
abbrev pub world_send_each : SiteName → SiteName → List ℕ → WorldState → WorldState
world_send_each from to [] w = w
world_send_each from to (position ∷ more) w = world_send_each from to more (world_send from to position w)

abbrev pub at_most : Option ℕ → ℕ → ℕ
at_most None n = n
at_most (Some count) n = min count n

abbrev pub positions_in : SiteName → Option ℕ → Option SiteState → List ℕ
positions_in to count None = []
positions_in to count (Some x) = range_with_len (acked_of to x + 1) (at_most count (length (stream_to to x) - acked_of to x))

-- the positions above the acknowledged mark, at most so many where a count is given
abbrev pub positions_above : SiteName → SiteName → Option ℕ → WorldState → List ℕ
positions_above from to count w = positions_in to count (site_of from w.sites)

-- what isn't acknowledged is sent
abbrev pub world_send_above : SiteName → SiteName → Option ℕ → WorldState → WorldState
world_send_above from to count w = world_send_each from to (positions_above from to count w) w

-- ---- what is taken in

abbrev pub taken_each : SiteName → List Packet → List SiteState → List SiteState
taken_each to [] sites = sites
taken_each to (packet ∷ more) sites = taken_each to more (at_site to (site_accept packet) sites)

-- nothing is on the way
abbrev pub emptied : Direction → Direction
emptied d = record d { on_way = [] }

-- a site takes in all that is on the way to it from another one
abbrev pub world_deliver : SiteName → SiteName → WorldState → WorldState
world_deliver from to w = record w { sites = taken_each to (on_way_between from to w.net) w.sites; net = at_direction from to emptied w.net }

abbrev pub taken_one : SiteName → Option Packet → List SiteState → List SiteState
taken_one to None sites = sites
taken_one to (Some packet) sites = at_site to (site_accept packet) sites

-- it takes in the first packet on the way, if there is one
abbrev pub world_deliver_one : SiteName → SiteName → WorldState → WorldState
world_deliver_one from to w = record w { sites = taken_one to (first_between from to w.net) w.sites; net = at_direction from to delivered w.net }

-- ---- what becomes of it

-- the receiver applies what came until all is quiet: a pass for the sender, and the rounds
abbrev pub world_until_quiet : SiteName → SiteName → WorldState → WorldState
world_until_quiet from to w = with_site to (site_until_quiet from) w

-- the mark for what came from a site is sent to it
abbrev pub world_send_mark : SiteName → SiteName → WorldState → WorldState
world_send_mark from to w = record w { net = sent_on (mark_from to (site_of from w.sites)) from to w.net }

-- what is held goes before it, and all is taken in
abbrev pub world_deliver_mark : SiteName → SiteName → WorldState → WorldState
world_deliver_mark from to w = world_deliver from to (world_send_mark from to (world_release from to w))

-- where the direction is down the mark is lost, and takes no fate
abbrev pub world_return_mark : SiteName → SiteName → WorldState → WorldState
world_return_mark from to w = cond (is_up from to w.net) (world_deliver_mark from to w) w

-- ---- the whole

-- all has come to the receiver
abbrev pub pushed_in : SiteName → SiteName → Option ℕ → WorldState → WorldState
pushed_in from to count w = world_deliver from to (world_send_above from to count (world_release from to w))

-- what is held is released and what isn't acknowledged is sent; the receiver takes all in and applies it; and its mark goes
-- back
abbrev pub world_push : SiteName → SiteName → Option ℕ → WorldState → WorldState
world_push from to count w = world_return_mark to from (world_until_quiet from to (pushed_in from to count w))
