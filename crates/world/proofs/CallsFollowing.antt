-- What a push of calls leaves of which some steps were done: all else, and what holds of a world of a script.
use Rattle.std.proofs.Common.{◌≡◌, ◌≢◌, ℕ, List, [], ◌∷◌, ◌++◌, drop, Some, None, refl, sym, ap, ◌∙◌, subst}
use Rattle.std.specs.Prelude.{Option, option_map}
use Rattle.rep_values.specs.declared.name.SiteName.{SiteName}
use Rattle.packet_code.specs.declared.packet.Packet.{Packet}
use Rattle.net_plan.specs.Directions.{Direction, HasDirection, direction_of, at_direction, first_between, released, delivered}
use Rattle.proc_state.specs.State.{ProcState}
use Rattle.proc_state.specs.Packets.{proc_accept}
use Rattle.proc_state.specs.Passes.{proc_apply}
use Rattle.proc_state.proofs.Names.{accept_names, apply_names}
use Rattle.world_state.specs.World.{WorldState, first_world}
use Rattle.world_state.specs.Procs.{Procs, proc_of, at_proc}
use Rattle.world_state.specs.Pushes.{sent_on}
use Rattle.world_state.specs.CallPushes.{calls_from, calls_taken_one, calls_deliver_one, calls_mark_from}
use Rattle.world.specs.Following.{Travel, Release, Take, Lose, PushStep, There, Send, MakePasses, SendMark, Back, fates_between, LeavesAllElse}
use Rattle.world.specs.Calling.{calls_travel, calls_applied, proc_parts, calls_step, calls_steps, LeavesOtherDirections, LeavesOtherCalls, CallsPushInPart}
use Rattle.world.proofs.Directions.{KeepsLink, released_keeps_link, delivered_keeps_link}
use Rattle.world.proofs.ProcSites.{KeepsMe, proc_of-other}
use Rattle.world.proofs.Following.{used_then, direction_leaves, sent_leaves}

-- ---- what leaves a site its name

accept_keeps : (packet : Packet) → KeepsMe (proc_accept packet)
accept_keeps packet x = (accept_names packet x).me

apply_keeps : (origin : SiteName) (position : ℕ) → KeepsMe (proc_apply origin position)
apply_keeps origin position x = (apply_names origin position x).me

applied_keeps : (origin : SiteName) (positions : List ℕ) → KeepsMe (calls_applied origin positions)
applied_keeps origin [] x = refl
applied_keeps origin (position ∷ more) x = applied_keeps origin more (proc_apply origin position x) ∙ apply_keeps origin position x

parts_keep : (parts : List (SiteName × List ℕ)) → KeepsMe (proc_parts parts)
parts_keep [] x = refl
parts_keep (part ∷ parts) x = parts_keep parts (calls_applied part.0 part.1 x) ∙ applied_keeps part.0 part.1 x

-- ---- other directions

-- a world that has this net and nothing else
abbrev net_alone : List Direction → WorldState
net_alone net = record first_world { net = net }

net_part : (from to : SiteName) (w y : WorldState) → LeavesAllElse from to w y → LeavesOtherDirections from to w.net y.net
net_part from to w y leaves = record { directions = leaves.directions; up = leaves.up; fates = leaves.fates }

net_same : (from to : SiteName) (net : List Direction) → LeavesOtherDirections from to net net
net_same from to net = record { directions = λ a b one other. refl; up = λ a b. refl; fates = λ a b. (0, refl) }

net_then : (from to : SiteName) (old middle new : List Direction) → LeavesOtherDirections from to old middle → LeavesOtherDirections from to middle new → LeavesOtherDirections from to old new
net_then from to old middle new first second = record {
  directions = λ a b one other. second.directions a b one other ∙ first.directions a b one other;
  up = λ a b. second.up a b ∙ first.up a b;
  fates = λ a b. used_then (fates_between a b old) (fates_between a b middle) (fates_between a b new) (first.fates a b) (second.fates a b);
}

net_turned : (from to : SiteName) (old new : List Direction) → LeavesOtherDirections from to old new → LeavesOtherDirections to from old new
net_turned from to old new leaves = record { directions = λ a b one other. leaves.directions a b other one; up = leaves.up; fates = leaves.fates }

net_changed : (used : ℕ) (from to : SiteName) (change : Direction → Direction) → KeepsLink used change → (net : List Direction) → LeavesOtherDirections from to net (at_direction from to change net)
net_changed used from to change keeps net = net_part from to (net_alone net) _ (direction_leaves used from to change keeps (net_alone net))

net_sent : (packet : Option Packet) (from to : SiteName) (net : List Direction) → LeavesOtherDirections from to net (sent_on packet from to net)
net_sent packet from to net = net_part from to (net_alone net) _ (sent_leaves packet from to (net_alone net))

-- ---- all else

calls_same : (from to : SiteName) (p : Procs) → LeavesOtherCalls from to p p
calls_same from to p = record { sites = λ name one other. refl; net = net_same from to p.net; tables = refl; procedures = refl; block = refl }

calls_then : (from to : SiteName) (p q r : Procs) → LeavesOtherCalls from to p q → LeavesOtherCalls from to q r → LeavesOtherCalls from to p r
calls_then from to p q r first second = record {
  sites = λ name one other. second.sites name one other ∙ first.sites name one other;
  net = net_then from to p.net q.net r.net first.net second.net;
  tables = second.tables ∙ first.tables;
  procedures = second.procedures ∙ first.procedures;
  block = second.block ∙ first.block;
}

-- it is the same whichever of the two sites pushes
calls_turned : (from to : SiteName) (p q : Procs) → LeavesOtherCalls from to p q → LeavesOtherCalls to from p q
calls_turned from to p q leaves = record {
  sites = λ name one other. leaves.sites name other one;
  net = net_turned from to p.net q.net leaves.net;
  tables = leaves.tables;
  procedures = leaves.procedures;
  block = leaves.block;
}

-- the net changes alone
links_leave : (from to : SiteName) (net : List Direction) (p : Procs) → LeavesOtherDirections from to p.net net → LeavesOtherCalls from to p (record p { net = net })
links_leave from to net p leaves = record { sites = λ name one other. refl; net = leaves; tables = refl; procedures = refl; block = refl }

-- the receiver changes
site_leaves : (from to : SiteName) (change : ProcState → ProcState) → KeepsMe change → (p : Procs) → LeavesOtherCalls from to p (record p { sites = at_proc to change p.sites })
site_leaves from to change keeps p = record {
  sites = λ name one other. proc_of-other to name change p.sites keeps (λ is. other (sym is));
  net = net_same from to p.net;
  tables = refl;
  procedures = refl;
  block = refl;
}

taken_elsewhere : (to name : SiteName) (packet : Option Packet) (sites : List ProcState) → name ≢ to → proc_of name (calls_taken_one to packet sites) ≡ proc_of name sites
taken_elsewhere to name None sites off = refl
taken_elsewhere to name (Some packet) sites off = proc_of-other to name (proc_accept packet) sites (accept_keeps packet) (λ is. off (sym is))

take_leaves : (from to : SiteName) (p : Procs) → LeavesOtherCalls from to p (calls_deliver_one from to p)
take_leaves from to p = record {
  sites = λ name one other. taken_elsewhere to name (first_between from to p.net) p.sites other;
  net = net_changed 0 from to delivered delivered_keeps_link p.net;
  tables = refl;
  procedures = refl;
  block = refl;
}

travel_leaves : (from to : SiteName) (travel : Travel) (p : Procs) → LeavesOtherCalls from to p (calls_travel from to travel p)
travel_leaves from to Release p = links_leave from to (at_direction from to released p.net) p (net_changed 0 from to released released_keeps_link p.net)
travel_leaves from to Take p = take_leaves from to p
travel_leaves from to Lose p = links_leave from to (at_direction from to delivered p.net) p (net_changed 0 from to delivered delivered_keeps_link p.net)

step_leaves : (from to : SiteName) (step : PushStep) (p : Procs) → LeavesOtherCalls from to p (calls_step from to step p)
step_leaves from to (There travel) p = travel_leaves from to travel p
step_leaves from to (Send position) p =
    let packet : Option Packet = calls_from to position (proc_of from p.sites) in
    links_leave from to (sent_on packet from to p.net) p (net_sent packet from to p.net)
step_leaves from to (MakePasses parts) p = site_leaves from to (proc_parts parts) (parts_keep parts) p
step_leaves from to SendMark p =
    let packet : Option Packet = calls_mark_from from (proc_of to p.sites) in
    calls_turned to from p _ (links_leave to from (sent_on packet to from p.net) p (net_sent packet to from p.net))
step_leaves from to (Back travel) p = calls_turned to from p _ (travel_leaves to from travel p)

steps_leave : (from to : SiteName) (steps : List PushStep) (p : Procs) → LeavesOtherCalls from to p (calls_steps from to steps p)
steps_leave from to [] p = calls_same from to p
steps_leave from to (step ∷ steps) p = calls_then from to p (calls_step from to step p) (calls_steps from to steps (calls_step from to step p)) (step_leaves from to step p) (steps_leave from to steps (calls_step from to step p))

-- ---- some steps of a push

-- these
pub calls_in_part : (from to : SiteName) (steps : List PushStep) (p q : Procs) → q ≡ calls_steps from to steps p → CallsPushInPart from to p q
calls_in_part from to steps p q is = record { steps = steps; made = is; beside = subst (LeavesOtherCalls from to p) (sym is) (steps_leave from to steps p) }

-- none
pub calls_part_none : (from to : SiteName) (p q : Procs) → q ≡ p → CallsPushInPart from to p q
calls_part_none from to p q is = calls_in_part from to [] p q is

-- one
pub calls_part_one : (from to : SiteName) (step : PushStep) (p q : Procs) → q ≡ calls_step from to step p → CallsPushInPart from to p q
calls_part_one from to step p q is = calls_in_part from to (step ∷ []) p q is

calls_steps-append : (from to : SiteName) (first next : List PushStep) (p : Procs) → calls_steps from to (first ++ next) p ≡ calls_steps from to next (calls_steps from to first p)
calls_steps-append from to [] next p = refl
calls_steps-append from to (step ∷ steps) next p = calls_steps-append from to steps next (calls_step from to step p)

-- some and then more
pub calls_part_then : (from to : SiteName) (p q r : Procs) → CallsPushInPart from to p q → CallsPushInPart from to q r → CallsPushInPart from to p r
calls_part_then from to p q r first second = calls_in_part from to (first.steps ++ second.steps) p r
    (second.made ∙ ap (λ (s : Procs). calls_steps from to second.steps s) first.made ∙ sym (calls_steps-append from to first.steps second.steps p))

-- a direction that was there is there
pub calls_part_linked : (from to a b : SiteName) (p q : Procs) → CallsPushInPart from to p q → HasDirection p.net a b → HasDirection q.net a b
calls_part_linked from to a b p q part has = go (direction_of a b p.net) (direction_of a b q.net) has (part.beside.net.up a b)
  where
    go : (o n : Option Direction) → o ≢ None → option_map (λ (d : Direction). d.up) n ≡ option_map (λ (d : Direction). d.up) o → n ≢ None
    go None n has same = λ e. has refl
    go (Some d) (Some e) has same = λ is. cc
    go (Some d) None has same = absurd (cc same)
