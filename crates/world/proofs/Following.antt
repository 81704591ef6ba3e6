-- What a push leaves of which some steps were done: all else, a world to which events lead, and what holds of a script's world.
use Rattle.std.proofs.Common.{◌≡◌, ◌≢◌, ℕ, ◌+◌, List, [], ◌∷◌, ◌++◌, drop, true, false, Some, None, refl, sym, ap, ◌∙◌, subst, drop-drop}
use Rattle.std.specs.Prelude.{Option, option_map}
use Rattle.rep_values.specs.declared.name.SiteName.{SiteName}
use Rattle.rep_schema.specs.declared.schema.Schema.{Schema}
use Rattle.rep_schema.specs.Shape.{HasShape}
use Rattle.rep_schema.specs.Sites.{senders_of, is_among}
use Rattle.packet_code.specs.declared.packet.Packet.{Packet}
use Rattle.net_plan.specs.declared.fate.Fate.{Fate}
use Rattle.net_plan.specs.Directions.{Direction, HasDirection, direction_of, at_direction, first_between, released, with_sent, delivered}
use Rattle.site_state.specs.State.{SiteState}
use Rattle.site_state.specs.Packets.{site_accept}
use Rattle.site_state.proofs.Changing.{accept_later}
use Rattle.site_events.specs.Cluster.{Cluster, site_of}
use Rattle.site_events.specs.Events.{packet_from, mark_from, run}
use Rattle.event_laws.proofs.Sites.{KeepsHere}
use Rattle.world_state.specs.World.{WorldState, with_site}
use Rattle.world_state.specs.Procs.{Procs}
use Rattle.world_state.specs.Phases.{is_setup}
use Rattle.world_state.specs.Pushes.{sent_on, taken_one, world_deliver_one}
use Rattle.world_laws.specs.Simulation.{Simulates, Leads, AreEvents}
use Rattle.world_laws.specs.Reached.{IsOfScript, InSetup, Behind}
use Rattle.world_laws.proofs.Finding.{of_other}
use Rattle.event_laws.proofs.Runs.{run-append}
use Rattle.world_laws.proofs.Pieces.{none_lead, then_lead, site_leads, release_leads, send_leads, send_mark_leads}
use Rattle.world_laws.proofs.Calling.{deliver_one_leads, lose_leads}
use Rattle.site_rounds.specs.Parts.{parts_done}
use Rattle.world.proofs.PassParts.{parts_do}
use Rattle.world_laws.specs.AlikeWorlds.{IsOfConvergence, Declaring, Going}
use Rattle.world_laws.proofs.AlikeWorlds.{goes_on_alike}
use Rattle.world_laws.proofs.ProceduresStay.{same_procs}
use Rattle.world.specs.Procedures.{LinksForCalls}
use Rattle.world.specs.Following.{Travel, Release, Take, Lose, travel_done, PushStep, There, Send, MakePasses, SendMark, Back, step_done, steps_done, up_between, fates_in, fates_between, LeavesAllElse, PushesInPart, IsBuilt}
use Rattle.world.proofs.Apart.{apart_behind}
use Rattle.world.proofs.Directions.{direction_of-at, KeepsLink, released_keeps_link, delivered_keeps_link, sent_keeps_link}

-- ---- all else

-- nothing happens
leaves_same : (from to : SiteName) (w : WorldState) → LeavesAllElse from to w w
leaves_same from to w = record {
  sites = λ name one other. refl;
  directions = λ a b one other. refl;
  up = λ a b. refl;
  fates = λ a b. (0, refl);
  phase = refl;
  schema = refl;
  base = refl;
  snapshots = refl;
  block = refl;
  procs = refl;
}

-- what is left of fates of which some were used up, and then more
pub used_then : (old middle new : List Fate) → ((used : ℕ) × (middle ≡ drop used old)) → ((used : ℕ) × (new ≡ drop used middle)) → (used : ℕ) × (new ≡ drop used old)
used_then old middle new first second = (first.0 + second.0, second.1 ∙ ap (λ (fates : List Fate). drop second.0 fates) first.1 ∙ drop-drop second.0 first.0 old)

-- one thing and then another
leaves_then : (from to : SiteName) (w y z : WorldState) → LeavesAllElse from to w y → LeavesAllElse from to y z → LeavesAllElse from to w z
leaves_then from to w y z first second = record {
  sites = λ name one other. second.sites name one other ∙ first.sites name one other;
  directions = λ a b one other. second.directions a b one other ∙ first.directions a b one other;
  up = λ a b. second.up a b ∙ first.up a b;
  fates = λ a b. used_then (fates_between a b w.net) (fates_between a b y.net) (fates_between a b z.net) (first.fates a b) (second.fates a b);
  phase = second.phase ∙ first.phase;
  schema = second.schema ∙ first.schema;
  base = second.base ∙ first.base;
  snapshots = second.snapshots ∙ first.snapshots;
  block = second.block ∙ first.block;
  procs = second.procs ∙ first.procs;
}

-- it is the same whichever of the two sites pushes
leaves_turned : (from to : SiteName) (w y : WorldState) → LeavesAllElse from to w y → LeavesAllElse to from w y
leaves_turned from to w y leaves = record {
  sites = λ name one other. leaves.sites name other one;
  directions = λ a b one other. leaves.directions a b other one;
  up = leaves.up;
  fates = leaves.fates;
  phase = leaves.phase;
  schema = leaves.schema;
  base = leaves.base;
  snapshots = leaves.snapshots;
  block = leaves.block;
  procs = leaves.procs;
}

-- the direction between them changes
pub direction_leaves : (used : ℕ) (from to : SiteName) (change : Direction → Direction) → KeepsLink used change → (w : WorldState) → LeavesAllElse from to w (record w { net = at_direction from to change w.net })
direction_leaves used from to change keeps w = record {
  sites = λ name one other. refl;
  directions = λ a b one other. direction_of-at (λ (o : Option Direction). o ≡ direction_of a b w.net) from to a b change keeps.ends w.net (λ e f. absurd (one e f)) refl;
  up = λ a b. direction_of-at (λ (o : Option Direction). option_map (λ (d : Direction). d.up) o ≡ up_between a b w.net) from to a b change keeps.ends w.net (λ e f. same_up (direction_of a b w.net)) refl;
  fates = λ a b. direction_of-at (λ (o : Option Direction). (n : ℕ) × (fates_in o ≡ drop n (fates_between a b w.net))) from to a b change keeps.ends w.net (λ e f. fewer (direction_of a b w.net)) (0, refl);
  phase = refl;
  schema = refl;
  base = refl;
  snapshots = refl;
  block = refl;
  procs = refl;
}
  where
    same_up : (o : Option Direction) → option_map (λ (d : Direction). d.up) (option_map change o) ≡ option_map (λ (d : Direction). d.up) o
    same_up None = refl
    same_up (Some d) = ap Some (keeps.up d)

    fewer : (o : Option Direction) → (n : ℕ) × (fates_in (option_map change o) ≡ drop n (fates_in o))
    fewer None = (0, refl)
    fewer (Some d) = (used, keeps.fates d)

-- the receiver changes
receiver_leaves : (from to : SiteName) (change : SiteState → SiteState) → KeepsHere change → (w : WorldState) → LeavesAllElse from to w (with_site to change w)
receiver_leaves from to change keeps w = record {
  sites = λ name one other. of_other to name change w.sites keeps (λ is. other (sym is));
  directions = λ a b one other. refl;
  up = λ a b. refl;
  fates = λ a b. (0, refl);
  phase = refl;
  schema = refl;
  base = refl;
  snapshots = refl;
  block = refl;
  procs = refl;
}

taken_elsewhere : (to name : SiteName) (packet : Option Packet) (sites : List SiteState) → name ≢ to → site_of name (taken_one to packet sites) ≡ site_of name sites
taken_elsewhere to name None sites off = refl
taken_elsewhere to name (Some packet) sites off = of_other to name (site_accept packet) sites (λ x. (accept_later packet x).here) (λ is. off (sym is))

-- a packet is taken in
take_leaves : (from to : SiteName) (w : WorldState) → LeavesAllElse from to w (world_deliver_one from to w)
take_leaves from to w =
    let gone = direction_leaves 0 from to delivered delivered_keeps_link w in
    record {
      sites = λ name one other. taken_elsewhere to name (first_between from to w.net) w.sites other;
      directions = gone.directions;
      up = gone.up;
      fates = gone.fates;
      phase = refl;
      schema = refl;
      base = refl;
      snapshots = refl;
      block = refl;
      procs = refl;
    }

-- a packet is sent, where there is one
pub sent_leaves : (packet : Option Packet) (from to : SiteName) (w : WorldState) → LeavesAllElse from to w (record w { net = sent_on packet from to w.net })
sent_leaves None from to w = leaves_same from to w
sent_leaves (Some packet) from to w = direction_leaves 1 from to (with_sent packet) (sent_keeps_link packet) w

travel_leaves : (from to : SiteName) (travel : Travel) (w : WorldState) → LeavesAllElse from to w (travel_done from to travel w)
travel_leaves from to Release w = direction_leaves 0 from to released released_keeps_link w
travel_leaves from to Take w = take_leaves from to w
travel_leaves from to Lose w = direction_leaves 0 from to delivered delivered_keeps_link w

step_leaves : (from to : SiteName) (step : PushStep) (w : WorldState) → LeavesAllElse from to w (step_done from to step w)
step_leaves from to (There travel) w = travel_leaves from to travel w
step_leaves from to (Send position) w = sent_leaves (packet_from to position (site_of from w.sites)) from to w
step_leaves from to (MakePasses parts) w = receiver_leaves from to (parts_done parts) (parts_do to parts).keeps w
step_leaves from to SendMark w = leaves_turned to from w _ (sent_leaves (mark_from from (site_of to w.sites)) to from w)
step_leaves from to (Back travel) w = leaves_turned to from w _ (travel_leaves to from travel w)

steps_leave : (from to : SiteName) (steps : List PushStep) (w : WorldState) → LeavesAllElse from to w (steps_done from to steps w)
steps_leave from to [] w = leaves_same from to w
steps_leave from to (step ∷ steps) w = leaves_then from to w (step_done from to step w) (steps_done from to steps (step_done from to step w)) (step_leaves from to step w) (steps_leave from to steps (step_done from to step w))

-- ---- some steps of a push

-- these
pub in_part : (from to : SiteName) (steps : List PushStep) (w y : WorldState) → y ≡ steps_done from to steps w → PushesInPart from to w y
in_part from to steps w y is = record { steps = steps; made = is; beside = subst (λ (z : WorldState). LeavesAllElse from to w z) (sym is) (steps_leave from to steps w) }

-- none
pub in_part_none : (from to : SiteName) (w y : WorldState) → y ≡ w → PushesInPart from to w y
in_part_none from to w y is = in_part from to [] w y is

-- one
pub in_part_one : (from to : SiteName) (step : PushStep) (w y : WorldState) → y ≡ step_done from to step w → PushesInPart from to w y
in_part_one from to step w y is = in_part from to (step ∷ []) w y is

steps_done-append : (from to : SiteName) (first next : List PushStep) (w : WorldState) → steps_done from to (first ++ next) w ≡ steps_done from to next (steps_done from to first w)
steps_done-append from to [] next w = refl
steps_done-append from to (step ∷ steps) next w = steps_done-append from to steps next (step_done from to step w)

-- some and then more
pub in_part_then : (from to : SiteName) (w y z : WorldState) → PushesInPart from to w y → PushesInPart from to y z → PushesInPart from to w z
in_part_then from to w y z first second = in_part from to (first.steps ++ second.steps) w z
    (second.made ∙ ap (λ (v : WorldState). steps_done from to second.steps v) first.made ∙ sym (steps_done-append from to first.steps second.steps w))

-- a direction that was there is there
pub in_part_linked : (from to a b : SiteName) (w y : WorldState) → PushesInPart from to w y → HasDirection w.net a b → HasDirection y.net a b
in_part_linked from to a b w y part has = go (direction_of a b w.net) (direction_of a b y.net) has (part.beside.up a b)
  where
    go : (o n : Option Direction) → o ≢ None → option_map (λ (d : Direction). d.up) n ≡ option_map (λ (d : Direction). d.up) o → n ≢ None
    go None n has same = λ e. has refl
    go (Some d) (Some e) has same = λ is. cc
    go (Some d) None has same = absurd (cc same)

-- ---- events

travel_leads : (from to : SiteName) (travel : Travel) → AreEvents (travel_done from to travel)
travel_leads from to Release w v s = release_leads from to w v s
travel_leads from to Take w v s = deliver_one_leads from to w v s
travel_leads from to Lose w v s = lose_leads from to w v s

step_leads : (from to : SiteName) (step : PushStep) → AreEvents (step_done from to step)
step_leads from to (There travel) w v s = travel_leads from to travel w v s
step_leads from to (Send position) w v s = send_leads from to position w v s
step_leads from to (MakePasses parts) w v s = site_leads to (parts_done parts) (parts_do to parts) w v s
step_leads from to SendMark w v s = send_mark_leads to from w v s
step_leads from to (Back travel) w v s = travel_leads to from travel w v s

steps_lead : (from to : SiteName) (steps : List PushStep) → AreEvents (steps_done from to steps)
steps_lead from to [] w v s = none_lead w v s
steps_lead from to (step ∷ steps) w v s = then_lead (step_done from to step) (steps_done from to steps) (step_leads from to step) (steps_lead from to steps) w v s

-- events lead to what a push leaves
in_part_leads : (from to : SiteName) (w y : WorldState) → PushesInPart from to w y → (v : Cluster) → Simulates w v → Leads y v
in_part_leads from to w y part v s = subst (λ (z : WorldState). Leads z v) (sym part.made) (steps_lead from to part.steps w v s)

-- ---- worlds of scripts

-- events that lead on from where others led
leads_then : (y z : WorldState) (v : Cluster) (a : Leads y v) → Leads z (run a.events v) → Leads z v
leads_then y z v a b = record { events = b.events ++ a.events; simulates = subst (Simulates z) (sym (run-append b.events a.events v)) b.simulates }

pub of_script_leads : (w y : WorldState) → is_setup w.phase ≡ false → IsOfScript w → ((v : Cluster) → Simulates w v → Leads y v) → IsOfScript y
of_script_leads w y behind (InSetup in_setup) leads = absurd (cc (behind, in_setup.setup))
of_script_leads w y behind (Behind r) leads = Behind (record {
  schema = r.schema;
  start = r.start;
  is = r.is;
  meshed = r.meshed;
  leads = leads_then w y r.start r.leads (leads (run r.leads.events r.start) r.leads.simulates);
})

pub of_convergence_leads : (w y : WorldState) → is_setup w.phase ≡ false → IsOfConvergence w → y.schema ≡ w.schema → ((v : Cluster) → Simulates w v → Leads y v) → IsOfConvergence y
of_convergence_leads w y behind (Declaring so_far) same leads = absurd (cc (behind, so_far.setup.setup))
of_convergence_leads w y behind (Going a) same leads = Going (goes_on_alike w y same leads a)

-- where the schema and what there is of procedures stay, so do the directions for calls
same_calls : (w y : WorldState) → y.schema ≡ w.schema → y.procs ≡ w.procs → LinksForCalls w → LinksForCalls y
same_calls w y schema procs linked site origin gets =
    subst (λ (p : Procs). HasDirection p.net site origin × HasDirection p.net origin site) (sym procs)
    (linked site origin (subst (λ (s : Schema). is_among (senders_of s site) origin ≡ true) schema gets))

-- behind Setup, what a push leaves of a world of a script is such a world
pub built_in_part : (from to : SiteName) (w y : WorldState) → is_setup w.phase ≡ false → IsBuilt w → PushesInPart from to w y → IsBuilt y
built_in_part from to w y behind built part = record {
  of_script = of_script_leads w y behind built.of_script (in_part_leads from to w y part);
  of_convergence = of_convergence_leads w y behind built.of_convergence part.beside.schema (in_part_leads from to w y part);
  shape = subst HasShape (sym part.beside.schema) built.shape;
  apart = apart_behind w y behind built.of_script (in_part_leads from to w y part) built.apart;
  linked = λ later site origin gets.
      let both = built.linked behind site origin (subst (λ (s : Schema). is_among (senders_of s site) origin ≡ true) part.beside.schema gets) in
      (in_part_linked from to site origin w y part both.0, in_part_linked from to origin site w y part both.1);
  procs = same_procs w y part.beside.phase part.beside.schema part.beside.procs built.procs;
  calls_linked = λ later. same_calls w y part.beside.schema part.beside.procs (built.calls_linked behind);
}
