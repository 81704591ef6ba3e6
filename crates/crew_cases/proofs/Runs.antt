-- Two sites that stand in a run of events.
use Rattle.std.proofs.Common.{◌≡◌, ℕ, List, [], ◌∷◌, map, Bool, true, false, cond, Some, None, Result, Ok, Err, refl, sym, ◌∙◌, ap, subst}
use Rattle.std.specs.Prelude.{Option, length, replicate, nat_le, nat_lt}
use Rattle.std.specs.List.{range_with_len}
use Rattle.site_state.specs.Steps.{is_empty, begun}
use Rattle.site_state.specs.Passes.{site_apply, apply_each}
use Rattle.site_state.proofs.Stepping.{apply_steps}
use mathlib.Core.Bool.{true≢false}
use Rattle.rep_values.specs.declared.name.SiteName.{SiteName}
use Rattle.rep_schema.specs.declared.schema.Schema.{Schema}
use Rattle.rep_schema.proofs.TableSteps.{AreTables-empty}
use Rattle.rep_calls.specs.declared.statement.Statement.{Statement}
use Rattle.rep_calls.specs.declared.call.Txn.{Txn}
use Rattle.packet_code.specs.declared.packet.Packet.{Packet}
use Rattle.packet_code.specs.declared.packet.Packet.TheVariants.{Carry, Mark}
use Rattle.txn_effects.specs.declared.local.Here.{Here}
use Rattle.rep_values.specs.SiteNames.{is_same_site}
use Rattle.deferred_queue.proofs.Sites.{is_same_site-true, is_same_site-refl}
use Rattle.site_state.specs.State.{SenderState, DestinationState, SiteState, arrived_at}
use Rattle.rep_schema.specs.Sites.{senders_of, destinations_of, is_master_site, is_among}
use Rattle.site_state.specs.declared.arrival.Arrival.{Arrival}
use Rattle.site_state.specs.Making.{new_sender, new_destination}
use Rattle.site_state.specs.Streams.{stream_to}
use Rattle.deferred_queue.specs.Streams.{at_position}
use Rattle.event_laws.specs.Starts.{IsNewSite}
use Rattle.site_state.specs.Commits.{site_commit, block_at, committed_by, committed}
use Rattle.site_state.specs.Packets.{site_packet, packet_found, carry_of, stream_number, site_accept, is_foreign, taken_unless, taken_in, arrived_by}
use Rattle.site_state.specs.DeclaredSites.{IsDeclared}
use Rattle.site_events.specs.Cluster.{at_site}
use Rattle.site_events.specs.Events.{Event, run, receiver}
use Rattle.site_events.specs.Events.Event.{Commit, Send, Deliver, Begin, Apply}
use Rattle.event_laws.specs.Fitting.{StartsFit}
use Rattle.event_laws.proofs.Sites.{KeepsHere, found_changed, found_other}
use Rattle.event_laws.proofs.NewSites.{new_site_is_new}
use Rattle.event_laws.proofs.Confluence.{every_site_can_pass_in_any_order}
use Rattle.crew_cases.specs.Runs.{AreInARun, opened, TwoBegin, TwoCommit, TwoDeliver, TwoApply, TwoPass}

-- ---- what a commit and a packet leave

commit_here : (statements : List Statement) → KeepsHere (site_commit statements)
commit_here statements x = go (block_at statements x)
  where
    by : (b : Bool) (y : SiteState) → y.here ≡ x.here → (cond b x y).here ≡ x.here
    by true y same = refl
    by false y same = same

    go : (r : Result _ _) → (committed_by r x).here ≡ x.here
    go (Ok block) = by (is_empty block.changes) (committed block x) refl
    go (Err stop) = refl

-- what is taken in changes neither the site's name nor its schema
arrived_keeps : (P : SiteState → Type 0) (x : SiteState) → ((y : SiteState) → y.here ≡ x.here → y.schema ≡ x.schema → P y) → (packet : Packet) → P (site_accept packet x)
arrived_keeps P x holds packet = go (is_foreign packet x)
  where
    by : (from : SiteName) (a : Arrival) (o : Option Arrival) → P (arrived_by o from a x)
    by from a None = holds (arrived_by None from a x) refl refl
    by from a (Some before) = holds x refl refl

    taken : (p : Packet) → P (taken_in p x)
    taken (Carry from to number position dep past txn) = by from (record { position = position; number = number; dep = dep; past = past; txn = txn }) (arrived_at from position x.senders)
    taken (Mark from to mark) = holds (taken_in (Mark from to mark) x) refl refl

    go : (b : Bool) → P (taken_unless b packet x)
    go true = holds x refl refl
    go false = taken packet

accept_here : (packet : Packet) → KeepsHere (site_accept packet)
accept_here packet x = arrived_keeps (λ (y : SiteState). y.here ≡ x.here) x (λ y here schema. here) packet

accept_schema : (packet : Packet) (x : SiteState) → (site_accept packet x).schema ≡ x.schema
accept_schema packet x = arrived_keeps (λ (y : SiteState). y.schema ≡ x.schema) x (λ y here schema. schema) packet

-- ---- names that differ

turned : (one other : SiteName) → is_same_site one other ≡ false → is_same_site other one ≡ false
turned one other differ = go (is_same_site other one) refl
  where
    go : (b : Bool) → is_same_site other one ≡ b → b ≡ false
    go false is = refl
    go true is = absurd (true≢false (sym (is_same_site-refl one) ∙ ap (is_same_site one) (sym (is_same_site-true other one is)) ∙ differ))

-- ---- runs

pub two_commit : TwoCommit
two_commit from to statements a = record {
  schema = a.schema;
  start = a.start;
  events = Commit from.here.site statements ∷ a.events;
  fit = a.fit;
  declared = a.declared;
  from_there = rw (commit_here statements from) (found_changed from.here.site (site_commit statements) (run a.events a.start).sites from (commit_here statements) a.from_there);
  to_there = found_other from.here.site to.here.site (site_commit statements) (run a.events a.start).sites (commit_here statements) a.apart ∙ a.to_there;
  apart = rw (commit_here statements from) a.apart;
  of_schema = a.of_schema;
}

packet_goes : (to : SiteName) (position : ℕ) (x : SiteState) (packet : Packet) → site_packet to position x ≡ Some packet → receiver packet ≡ to
packet_goes to position x packet is = go (at_position position (stream_to to x)) is
  where
    by : (txn : Txn) (b : Bool) → cond b None (Some (carry_of to position x txn)) ≡ Some packet → receiver packet ≡ to
    by txn true is = absurd (cc is)
    by txn false is = let same : carry_of to position x txn ≡ packet = cc is in rw (← same) refl

    go : (t : Option Txn) → packet_found to position x t ≡ Some packet → receiver packet ≡ to
    go None is = absurd (cc is)
    go (Some txn) is = by txn (nat_le (stream_number to position x) x.purged) is

pub two_deliver : TwoDeliver
two_deliver from to position packet a is = record {
  schema = a.schema;
  start = a.start;
  events = events;
  fit = a.fit;
  declared = a.declared;
  from_there = rw sites (found_other to.here.site from.here.site (site_accept packet) (run a.events a.start).sites (accept_here packet) (turned from.here.site to.here.site a.apart) ∙ a.from_there);
  to_there = rw (accept_here packet to, sites) (found_changed to.here.site (site_accept packet) (run a.events a.start).sites to (accept_here packet) a.to_there);
  apart = rw (accept_here packet to) a.apart;
  of_schema = accept_schema packet to ∙ a.of_schema;
}
  where
    events : List Event
    events = Deliver 0 ∷ Send from.here.site to.here.site position ∷ a.events

    sites : (run events a.start).sites ≡ at_site to.here.site (site_accept packet) (run a.events a.start).sites
    sites = rw (a.from_there, is, packet_goes to.here.site position from packet is) refl

-- they stand in a run in which the other site has begun a pass
record Passing (from to : SiteState) : Type 0 where
  along : AreInARun from to
  began : is_among (run along.events along.start).begun to.here.site ≡ true

begun_here : KeepsHere begun
begun_here x = refl

pass_begins : (from to : SiteState) → AreInARun from to → Passing from (begun to)
pass_begins from to a = record {
  along = record {
    schema = a.schema;
    start = a.start;
    events = Begin to.here.site ∷ a.events;
    fit = a.fit;
    declared = a.declared;
    from_there = found_other to.here.site from.here.site begun (run a.events a.start).sites begun_here (turned from.here.site to.here.site a.apart) ∙ a.from_there;
    to_there = found_changed to.here.site begun (run a.events a.start).sites to begun_here a.to_there;
    apart = a.apart;
    of_schema = a.of_schema;
  };
  began = rw (is_same_site-refl to.here.site) refl;
}

position_goes : (from to : SiteState) (origin : SiteName) (position : ℕ) → Passing from to → Passing from (site_apply origin position to)
position_goes from to origin position p = record {
  along = record {
    schema = a.schema;
    start = a.start;
    events = Apply to.here.site origin position ∷ a.events;
    fit = a.fit;
    declared = a.declared;
    from_there = rw sites (found_other to.here.site from.here.site (site_apply origin position) (run a.events a.start).sites keeps (turned from.here.site to.here.site a.apart) ∙ a.from_there);
    to_there = rw (keeps to, sites) (found_changed to.here.site (site_apply origin position) (run a.events a.start).sites to keeps a.to_there);
    apart = rw (keeps to) a.apart;
    of_schema = (apply_steps origin position to).schema ∙ a.of_schema;
  };
  began = rw (keeps to) p.began;
}
  where
    a : AreInARun from to
    a = p.along

    keeps : KeepsHere (site_apply origin position)
    keeps x = (apply_steps origin position x).here

    sites : (run (Apply to.here.site origin position ∷ a.events) a.start).sites ≡ at_site to.here.site (site_apply origin position) (run a.events a.start).sites
    sites = rw p.began refl

each_goes : (from to : SiteState) (origin : SiteName) (arrived : List Arrival) → Passing from to → Passing from (apply_each origin arrived to)
each_goes from to origin [] p = p
each_goes from to origin (one ∷ arrived) p = each_goes from (site_apply origin one.position to) origin arrived (position_goes from to origin one.position p)

pub two_apply : TwoApply
two_apply from to origin arrived a = (each_goes from (begun to) origin arrived (pass_begins from to a)).along

pub two_pass : TwoPass
two_pass from to a master =
    every_site_can_pass_in_any_order a.schema a.start a.events a.fit a.declared to.here.site from.here.site to a.to_there (subst (λ (s : Schema). is_master_site s from.here.site ≡ true) a.of_schema master)

-- ---- how a run begins

origins-new : (names : List SiteName) → map (λ (s : SenderState). s.origin) (map new_sender names) ≡ names
origins-new [] = refl
origins-new (name ∷ names) = ap (λ (ns : List SiteName). name ∷ ns) (origins-new names)

sites-new : (schema : Schema) (names : List SiteName) → map (λ (d : DestinationState). d.site) (map (new_destination schema) names) ≡ names
sites-new schema [] = refl
sites-new schema (name ∷ names) = ap (λ (ns : List SiteName). name ∷ ns) (sites-new schema names)

opened_declared : (schema : Schema) (here : Here) → here.is_master ≡ is_master_site schema here.site → IsDeclared schema (opened schema here)
opened_declared schema here master = record {
  is_master = master;
  senders = origins-new (senders_of schema here.site);
  destinations = sites-new schema (destinations_of schema here.site);
}

opened_is_new : (schema : Schema) (here : Here) → IsNewSite schema (opened schema here)
opened_is_new schema here = new_site_is_new schema here (map (λ table. nat_lt table 0) (range_with_len 0 32)) [] (replicate (length schema.tables) [])

opened_fits : (schema : Schema) (here : Here) → StartsFit schema (opened schema here)
opened_fits schema here = record { base = AreTables-empty schema; within = tt }

pub two_begin : TwoBegin
two_begin schema from to sound from_master to_master apart = record {
  schema = schema;
  start = record { sites = opened schema from ∷ opened schema to ∷ []; sent = []; begun = [] };
  events = [];
  fit = record {
    sound = sound;
    start = record { sites = (opened_is_new schema from, (opened_is_new schema to, tt)); sent = refl };
    sites = (opened_fits schema from, (opened_fits schema to, tt));
  };
  declared = record { shape = sound.shape; each = (opened_declared schema from from_master, (opened_declared schema to to_master, tt)) };
  from_there = rw (is_same_site-refl from.site) refl;
  to_there = rw (apart, is_same_site-refl to.site) refl;
  apart = apart;
  of_schema = refl;
}
