-- Each piece of a line is a list of events, and so is each line.
use Rattle.std.proofs.Common.{◌≡◌, ℕ, List, [], ◌∷◌, ◌++◌, Bool, true, false, cond, Some, None, refl, sym, ap, ◌∙◌, subst}
use Rattle.std.specs.Prelude.{Option, nat_le}
use Rattle.std.specs.List.{AllByRecursion}
use Rattle.rep_values.specs.declared.name.SiteName.{SiteName}
use Rattle.rep_calls.specs.declared.call.Txn.{Txn}
use Rattle.rep_schema.specs.Named.{table_place}
use Rattle.deferred_queue.specs.Streams.{at_position}
use Rattle.packet_code.specs.declared.packet.Packet.{Packet}
use Rattle.net_plan.specs.Directions.{Direction, at_direction, on_way_between, is_up, released, with_sent, with_link, with_fates, without_fates}
use Rattle.site_state.specs.State.{SiteState}
use Rattle.site_state.specs.Streams.{stream_to}
use Rattle.site_state.specs.Packets.{stream_number, carry_of, packet_found}
use Rattle.site_events.specs.Cluster.{Cluster, site_of, at_site}
use Rattle.site_events.specs.Joins.{joined}
use Rattle.site_events.specs.Events.{Event, receiver, with_packet, packet_from, mark_from, refreshed, happens, run}
use Rattle.site_events.specs.Events as event
use Rattle.world_state.specs.declared.phase.Phase.{Phase}
use Rattle.world_state.specs.declared.phase.Phase.TheVariants as phase
use Rattle.world_state.specs.declared.block.Block.{Block}
use Rattle.script_parse.specs.declared.command.Command.{Command}
use Rattle.script_parse.specs.declared.command.Command.TheVariants as command
use Rattle.script_parse.specs.declared.command.ParentWords.{ParentWords}
use Rattle.script_parse.specs.declared.command.TestWords.{TestWords}
use Rattle.world_state.specs.World.{WorldState, with_site}
use Rattle.world_state.specs.Declaring.{with_snapshot_at, tests_in}
use Rattle.site_state.specs.Rounds.{site_until_quiet}
use Rattle.world_state.specs.Pushes.{world_release, sent_on, world_send, world_send_each, positions_above, world_send_above, taken_each, emptied, world_deliver, world_until_quiet, world_send_mark, world_deliver_mark, world_return_mark, pushed_in, world_push}
use Rattle.world_state.specs.Blocks.{closed, is_commit, committed_block, world_commit}
use Rattle.world_state.specs.CallBlocks.{sent_to}
use Rattle.world_state.specs.Phases.{is_setup}
use Rattle.world_state.specs.Refusals.{world_refusal}
use Rattle.world_state.specs.Steps.{resumed, world_refresh, log_purged_at, is_up_word, world_done, left_by, world_refused}
use Rattle.world_laws.specs.Simulation.{CarriesSent, Simulates, Leads, AreEvents, StepsAreEvents, StepsAreEventsHoweverRefused}
use Rattle.world_laws.proofs.Links.{net_more, at_carries, way_sent, released_carries, emptied_carries, sent_carries}
use Rattle.world_laws.proofs.SiteSteps.{Runs, taken_runs, SiteRuns, does_runs, until_quiet_does}
use Rattle.event_laws.proofs.Runs.{run-append}

-- ---- nothing, and one thing and then another

abbrev pub AreCarried : List Packet → List Direction → Type 0
AreCarried sent net = AllByRecursion (CarriesSent sent) net

pub none_lead : AreEvents (λ w. w)
none_lead w v s = record { events = []; simulates = s }

pub then_lead : (change next : WorldState → WorldState) → AreEvents change → AreEvents next → AreEvents (λ w. next (change w))
then_lead change next first second w v s = go (first w v s)
  where
    go : Leads (change w) v → Leads (next (change w)) v
    go a = let b = second (change w) (run a.events v) a.simulates in
        record { events = b.events ++ a.events; simulates = subst (Simulates (next (change w))) (sym (run-append b.events a.events v)) b.simulates }

-- a change of what no event looks at
beside_lead : (w y : WorldState) (v : Cluster) → Simulates w v → is_setup y.phase ≡ false → y.sites ≡ w.sites → y.net ≡ w.net → Leads y v
beside_lead w y v s behind sites net = record { events = []; simulates = record { behind = behind; sites = sites ∙ s.sites; net = rw net s.net } }

-- events that send nothing, beside a change of the links
pub runs_lead : (w y : WorldState) (v : Cluster) → Simulates w v → y.phase ≡ w.phase → AreCarried v.sent y.net → (ys : List SiteState) → Runs v ys → ys ≡ y.sites → Leads y v
runs_lead w y v s phase net ys r same = record {
  events = r.events;
  simulates = record { behind = ap is_setup phase ∙ s.behind; sites = sym (r.sites ∙ same); net = subst (λ (sent : List Packet). AreCarried sent y.net) (sym r.sent) net };
}

-- one event that sends nothing
one_lead : (w y : WorldState) (v : Cluster) (e : Event) → Simulates w v → y.phase ≡ w.phase → y.net ≡ w.net → (happens e v).sites ≡ y.sites → (happens e v).sent ≡ v.sent → Leads y v
one_lead w y v e s phase net sites sent = runs_lead w y v s phase (rw net s.net) (happens e v).sites (record { events = e ∷ []; sites = refl; sent = sent }) sites

-- a change of the links alone
pub links_lead : (w : WorldState) (net : List Direction) (v : Cluster) → Simulates w v → AreCarried v.sent net → Leads (record w { net = net }) v
links_lead w net v s carried = record { events = []; simulates = record { behind = s.behind; sites = s.sites; net = carried } }

-- what one site does
pub site_leads : (site : SiteName) (change : SiteState → SiteState) → SiteRuns site change → AreEvents (with_site site change)
site_leads site change does w v s = runs_lead w (with_site site change w) v s refl s.net (at_site site change v.sites) (does_runs site change does v) (ap (at_site site change) (sym s.sites))

-- ---- packets

packet_goes : (to : SiteName) (position : ℕ) (o : Option SiteState) (packet : Packet) → packet_from to position o ≡ Some packet → receiver packet ≡ to
packet_goes to position None packet is = absurd (cc is)
packet_goes to position (Some x) packet is = go (at_position position (stream_to to x)) is
  where
    by : (txn : Txn) (b : Bool) → cond b None (Some (carry_of to position x txn)) ≡ Some packet → receiver packet ≡ to
    by txn true is = absurd (cc is)
    by txn false is = let same : carry_of to position x txn ≡ packet = cc is in rw (← same) refl

    go : (t : Option Txn) → packet_found to position x t ≡ Some packet → receiver packet ≡ to
    go None is = absurd (cc is)
    go (Some txn) is = by txn (nat_le (stream_number to position x) x.purged) is

mark_goes : (to : SiteName) (o : Option SiteState) (packet : Packet) → mark_from to o ≡ Some packet → receiver packet ≡ to
mark_goes to None packet is = absurd (cc is)
mark_goes to (Some x) packet is = ap receiver (sym (some_is is))
  where
    some_is : {one : Packet} → Some one ≡ Some packet → one ≡ packet
    some_is is = cc is

-- an event that sends one packet at most, which goes on the way, is held or is lost
packet_lead : (w : WorldState) (v : Cluster) (e : Event) (from to : SiteName) (found : Option Packet) → Simulates w v → ((packet : Packet) → found ≡ Some packet → receiver packet ≡ to)
    → (happens e v).sites ≡ v.sites → (happens e v).sent ≡ with_packet found v.sent → Leads (record w { net = sent_on found from to w.net }) v
packet_lead w v e from to found s goes sites sent = record {
  events = e ∷ [];
  simulates = record { behind = s.behind; sites = s.sites ∙ sym sites; net = subst (λ (sent : List Packet). AreCarried sent (sent_on found from to w.net)) (sym sent) (carried found goes) };
}
  where
    carried : (found : Option Packet) → ((packet : Packet) → found ≡ Some packet → receiver packet ≡ to) → AreCarried (with_packet found v.sent) (sent_on found from to w.net)
    carried None goes = s.net
    carried (Some packet) goes = at_carries (packet ∷ v.sent) from to (with_sent packet) w.net
        (λ d same carries. sent_carries (packet ∷ v.sent) packet to d (record { goes = goes packet refl; which = 0; is = refl }) same carries) (net_more packet v.sent w.net s.net)

-- ---- the pieces of a push

pub release_leads : (from to : SiteName) → AreEvents (world_release from to)
release_leads from to w v s = links_lead w _ v s (at_carries v.sent from to released w.net (λ d same carries. released_carries v.sent d carries) s.net)

pub send_leads : (from to : SiteName) (position : ℕ) → AreEvents (world_send from to position)
send_leads from to position w v s = packet_lead w v (event.Send from to position) from to (packet_from to position (site_of from w.sites)) s
    (packet_goes to position (site_of from w.sites)) refl (ap (λ (xs : List SiteState). with_packet (packet_from to position (site_of from xs)) v.sent) (sym s.sites))

pub send_each_leads : (from to : SiteName) (positions : List ℕ) → AreEvents (world_send_each from to positions)
send_each_leads from to [] = none_lead
send_each_leads from to (position ∷ more) = then_lead (world_send from to position) (world_send_each from to more) (send_leads from to position) (send_each_leads from to more)

pub send_above_leads : (from to : SiteName) (count : Option ℕ) → AreEvents (world_send_above from to count)
send_above_leads from to count w v s = send_each_leads from to (positions_above from to count w) w v s

pub deliver_leads : (from to : SiteName) → AreEvents (world_deliver from to)
deliver_leads from to w v s = runs_lead w (world_deliver from to w) v s refl (at_carries v.sent from to emptied w.net (λ d same carries. emptied_carries v.sent d carries) s.net)
    (taken_each to (on_way_between from to w.net) v.sites) (taken_runs to (on_way_between from to w.net) v (way_sent v.sent from to w.net s.net))
    (ap (taken_each to (on_way_between from to w.net)) (sym s.sites))

pub until_quiet_leads : (from to : SiteName) → AreEvents (world_until_quiet from to)
until_quiet_leads from to = site_leads to (site_until_quiet from) (until_quiet_does to from)

pub send_mark_leads : (from to : SiteName) → AreEvents (world_send_mark from to)
send_mark_leads from to w v s = packet_lead w v (event.SendMark from to) from to (mark_from to (site_of from w.sites)) s
    (mark_goes to (site_of from w.sites)) refl (ap (λ (xs : List SiteState). with_packet (mark_from to (site_of from xs)) v.sent) (sym s.sites))

pub deliver_mark_leads : (from to : SiteName) → AreEvents (world_deliver_mark from to)
deliver_mark_leads from to = then_lead (λ w. world_send_mark from to (world_release from to w)) (world_deliver from to)
    (then_lead (world_release from to) (world_send_mark from to) (release_leads from to) (send_mark_leads from to)) (deliver_leads from to)

pub return_mark_leads : (from to : SiteName) → AreEvents (world_return_mark from to)
return_mark_leads from to w v s = go (is_up from to w.net)
  where
    go : (b : Bool) → Leads (cond b (world_deliver_mark from to w) w) v
    go true = deliver_mark_leads from to w v s
    go false = none_lead w v s

pub pushed_in_leads : (from to : SiteName) (count : Option ℕ) → AreEvents (pushed_in from to count)
pushed_in_leads from to count = then_lead (λ w. world_send_above from to count (world_release from to w)) (world_deliver from to)
    (then_lead (world_release from to) (world_send_above from to count) (release_leads from to) (send_above_leads from to count)) (deliver_leads from to)

pub push_leads : (from to : SiteName) (count : Option ℕ) → AreEvents (world_push from to count)
push_leads from to count = then_lead (λ w. world_until_quiet from to (pushed_in from to count w)) (world_return_mark to from)
    (then_lead (pushed_in from to count) (world_until_quiet from to) (pushed_in_leads from to count) (until_quiet_leads from to)) (return_mark_leads to from)

-- ---- the other commands

block_leads : (block : Option Block) → AreEvents (committed_block block)
block_leads None w v s = none_lead w v s
block_leads (Some block) w v s = one_lead w (committed_block (Some block) w) v (event.Commit block.site block.statements) s refl refl (ap (at_site block.site _) (sym s.sites)) refl

pub commit_leads : AreEvents world_commit
commit_leads w v s = block_leads w.block w v s

pub closed_leads : AreEvents closed
closed_leads w v s = beside_lead w (closed w) v s s.behind refl refl

pub refresh_leads : (site : SiteName) → AreEvents (world_refresh site)
refresh_leads site w v s = one_lead w (world_refresh site w) v (event.Refresh site) s refl refl (ap (λ (xs : List SiteState). at_site site (refreshed xs) xs) (sym s.sites)) refl

pub join_leads : (site source : SiteName) → AreEvents (λ w. record w { sites = joined site source w.sites })
join_leads site source w v s = one_lead w (record w { sites = joined site source w.sites }) v (event.Join site source) s refl refl (ap (joined site source) (sym s.sites)) refl

-- one event changes one site
one_site : (site : SiteName) (change : SiteState → SiteState) (e : Event) → ((v : Cluster) → (happens e v).sites ≡ at_site site change v.sites) → ((v : Cluster) → (happens e v).sent ≡ v.sent) → AreEvents (with_site site change)
one_site site change e sites sent w v s = one_lead w (with_site site change w) v e s refl refl (sites v ∙ ap (at_site site change) (sym s.sites)) (sent v)

purge_log_leads : (site : SiteName) (table : Option ℕ) → AreEvents (log_purged_at site table)
purge_log_leads site None w v s = none_lead w v s
purge_log_leads site (Some table) w v s = one_site site _ (event.PurgeLog site table) (λ v. refl) (λ v. refl) w v s

-- a change of a direction that leaves its packets
same_carried : (sent : List Packet) (from to : SiteName) (change : Direction → Direction) (net : List Direction) → ((d : Direction) → CarriesSent sent d → CarriesSent sent (change d)) → AreCarried sent net → AreCarried sent (at_direction from to change net)
same_carried sent from to change net keeps all = at_carries sent from to change net (λ d same carries. keeps d carries) all

-- behind Setup a resumption is no end of Setup
resumed_leads : (now : Phase) (w : WorldState) (v : Cluster) → w.phase ≡ now → Simulates w v → Leads (resumed now w) v
resumed_leads phase.Setup w v is s = let setup : is_setup w.phase ≡ true = ap is_setup is in absurd (cc (setup, s.behind))
resumed_leads phase.Running w v is s = none_lead w v s
resumed_leads phase.Suspended w v is s = beside_lead w (record w { phase = phase.Running }) v s refl refl refl

-- declarations are beside what events look at
declared_leads : (site : SiteName) (table : Option ℕ) (parent : Option ParentWords) (tests : List TestWords) → AreEvents (with_snapshot_at site table parent tests)
declared_leads site None parent tests w v s = none_lead w v s
declared_leads site (Some table) parent tests w v s = beside_lead w (with_snapshot_at site (Some table) parent tests w) v s s.behind refl refl

pub done_leads : (number : ℕ) (c : Command) → AreEvents (world_done number c)
done_leads number command.Nothing w v s = none_lead w v s
done_leads number (command.Declare declaration) w v s = beside_lead w (world_done number (command.Declare declaration) w) v s s.behind refl refl
done_leads number (command.Snapshot site table parent tests) w v s = declared_leads site (table_place w.schema table) parent (tests_in tests) w v s
done_leads number (command.Row table values) w v s = beside_lead w (world_done number (command.Row table values) w) v s s.behind refl refl
done_leads number (command.Txn site) w v s = beside_lead w (world_done number (command.Txn site) w) v s s.behind refl refl
done_leads number (command.Statement statement) w v s = beside_lead w (world_done number (command.Statement statement) w) v s s.behind refl refl
done_leads number command.Commit w v s = commit_leads w v s
done_leads number command.Abandon w v s = closed_leads w v s
done_leads number (command.Push from to count) w v s = push_leads from to count w v s
done_leads number (command.Fates from to fates) w v s = links_lead w _ v s (same_carried v.sent from to (with_fates fates) w.net (λ d carries. record { held = carries.held; on_way = carries.on_way }) s.net)
done_leads number (command.ClearFates from to) w v s = links_lead w _ v s (same_carried v.sent from to without_fates w.net (λ d carries. record { held = carries.held; on_way = carries.on_way }) s.net)
done_leads number (command.Link from to word) w v s = links_lead w _ v s (same_carried v.sent from to (with_link (is_up_word word)) w.net (λ d carries. record { held = carries.held; on_way = carries.on_way }) s.net)
done_leads number (command.Clock site time) w v s = one_site site _ (event.SetClock site time) (λ v. refl) (λ v. refl) w v s
done_leads number (command.Purge site) w v s = one_site site _ (event.Purge site) (λ v. refl) (λ v. refl) w v s
done_leads number (command.Execute site origin position) w v s = one_site site _ (event.Execute site origin position) (λ v. refl) (λ v. refl) w v s
done_leads number (command.DropError site origin position) w v s = one_site site _ (event.Drop site origin position) (λ v. refl) (λ v. refl) w v s
done_leads number (command.Refresh site how) w v s = refresh_leads site w v s
done_leads number (command.PurgeLog master table) w v s = purge_log_leads master (table_place w.schema table) w v s
done_leads number command.Suspend w v s = beside_lead w (record w { phase = phase.Suspended }) v s refl refl refl
done_leads number command.Resume w v s = resumed_leads w.phase w v refl s
done_leads number (command.Join site source) w v s = join_leads site source w v s
done_leads number (command.Show what site) w v s = none_lead w v s
done_leads number (command.Procedures line) w v s = beside_lead w (world_done number (command.Procedures line) w) v s s.behind refl refl

refused_leads : (c : Command) → AreEvents (world_refused c)
refused_leads c w v s = go (is_commit c) (sent_to c)
  where
    go : (b : Bool) (to : Option (List SiteName)) → Leads (cond b (closed w) (left_by to w)) v
    go true to = closed_leads w v s
    go false None = none_lead w v s
    go false (Some to) = beside_lead w (left_by (Some to) w) v s s.behind refl refl

-- each line behind Setup is a list of events, whatever refusal it meets
pub steps_are_events_however_refused : StepsAreEventsHoweverRefused
steps_are_events_however_refused None number c = done_leads number c
steps_are_events_however_refused (Some why) number c = refused_leads c

pub steps_are_events : StepsAreEvents
steps_are_events number c w v s = steps_are_events_however_refused (world_refusal c w) number c w v s
