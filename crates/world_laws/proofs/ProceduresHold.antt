-- The laws over calls hold of the procedures of every script's world.
use Rattle.std.proofs.Common.{◌≡◌, ℕ, ◌≤◌, List, [], ◌∷◌, ◌++◌, Bool, true, false, cond, Some, None, Ok, Err, refl, sym, ap, subst}
use Rattle.std.specs.Prelude.{Option, Result}
use Rattle.std.specs.List.{AllByRecursion}
use Rattle.rep_lists.proofs.Each.{each_then}
use Rattle.rep_values.specs.declared.name.SiteName.{SiteName}
use Rattle.rep_schema.specs.declared.schema.Schema.{Schema}
use Rattle.rep_schema.specs.Tables.{Rows}
use Rattle.rep_calls.specs.declared.call.Txn.{Txn}
use Rattle.txn_effects.specs.Transactions.{Failure}
use Rattle.deferred_queue.specs.Streams.{acked_by}
use Rattle.rep_values.specs.SiteNames.{is_same_site}
use Rattle.deferred_queue.proofs.Sites.{is_same_site-true}
use Rattle.packet_code.specs.declared.packet.Packet.{Packet}
use Rattle.packet_code.specs.declared.packet.Packet.TheVariants.{Carry, Mark}
use Rattle.error_queue.specs.declared.entry.ErrorEntry.{ErrorEntry}
use Rattle.site_state.specs.declared.entry.Entry.{Entry}
use Rattle.site_state.specs.declared.entry.Entry.TheVariants.{Local, Done, Error, Executed, Dropped, Refreshed}
use Rattle.site_state.specs.declared.answers.Why.{Why}
use Rattle.site_state.specs.declared.arrival.Arrival.{Arrival}
use Rattle.site_state.specs.State.{SenderState, sender_of, arrived_in, arrived_at, arrivals}
use Rattle.site_state.specs.Journal.{error_at}
use Rattle.site_state.specs.Ready.{stale_of}
use Rattle.site_state.proofs.Stepping.{arrived_has}
use Rattle.site_state.specs.Waited.{EachBehind, IsFinishedOnce}
use Rattle.site_events.specs.Events.{without}
use Rattle.proc_state.specs.declared.procedure.Procedure.{Procedure}
use Rattle.proc_state.specs.Carriers.{txn_after}
use Rattle.proc_state.specs.State.{ProcState, as_site, journal_tables}
use Rattle.proc_state.specs.Calling.{calls_here, called_by}
use Rattle.proc_state.specs.Packets.{is_foreign, taken, proc_packet}
use Rattle.proc_state.specs.Passes.{txn_here, finished_by, applied_unless, proc_apply, apply_each}
use Rattle.proc_state.specs.Errors.{executed_by, executed_found}
use Rattle.proc_state.specs.Events.{ProcEvent, Call, Accept, Apply, Pass, Execute, after_event, after_events}
use Rattle.proc_state.specs.Laws.{AreWellNumbered, ComesBehind, FinishesEarlierFirst, IsOfStream}
use Rattle.proc_state.proofs.Ordering.{are_finished_once, earlier_comes_first}
use Rattle.proc_state.proofs.Depending.{streams_arrive_well_numbered}
use Rattle.proc_state.proofs.Sending.{is_sent}
use Rattle.world_state.specs.World.{WorldState}
use Rattle.world_state.specs.Phases.{is_setup}
use Rattle.world_state.specs.Procs.{proc_schema, early_masters, proc_made, proc_of}
use Rattle.world_state.specs.CallPushes.{calls_from}
use Rattle.world_laws.proofs.StandingErrors.{has_entry}
use Rattle.world_laws.specs.Streams.{low_at, HasArrived, SenderHasArrived, ArrivedOfStreams, MarksAreLow, CallsWereSent, EntryOfStreams, JournalOfStreams}
use Rattle.world_laws.specs.Built.{ComesFromCalls, AreProcsMade, AreProcsBuilt}
use Rattle.world_laws.specs.ProcedureWorlds.{IsWholeCallError, ProceduresHold, ProceduresHoldInScripts}
use Rattle.world_laws.proofs.Sites.{name-proc_of, all-proc_of}
use Rattle.world_laws.proofs.SiteStreams.{was_sent}
use Rattle.world_laws.proofs.Made.{site_comes, site_fits}
use Rattle.world_laws.proofs.ProceduresStay.{scripts_procs}

-- ---- each error fails on the tables before it

abbrev FailsOn : Schema → List Procedure → Entry → List Entry → Type 0
FailsOn schema procedures (Local number txn) before = Unit {0}
FailsOn schema procedures (Done origin position onward txn) before = Unit {0}
FailsOn schema procedures (Error origin position call error txn) before = txn_after schema procedures txn (journal_tables schema procedures before) ≡ Err (record { call = call; error = error })
FailsOn schema procedures (Executed origin position onward txn) before = Unit {0}
FailsOn schema procedures (Dropped origin position) before = Unit {0}
FailsOn schema procedures (Refreshed moment) before = Unit {0}

abbrev AllFail : ProcState → Type 0
AllFail x = EachBehind (FailsOn x.schema x.procedures) x.journal

apply_fails : (origin : SiteName) (position : ℕ) (x : ProcState) → AllFail x → AllFail (proc_apply origin position x)
apply_fails origin position x all = go (stale_of origin position (as_site x)) (arrived_at origin position x.senders)
  where
    by : (a : Arrival) (r : Result (List Rows) Failure) → txn_here a.txn x ≡ r → AllFail (finished_by origin a r x)
    by a (Ok tables) is = (tt, all)
    by a (Err failure) is = (is, all)

    go : (stale : Option Why) (found : Option Arrival) → AllFail (applied_unless stale origin found x)
    go (Some reason) found = all
    go None None = all
    go None (Some a) = by a (txn_here a.txn x) refl

each_fails : (origin : SiteName) (arrived : List Arrival) (x : ProcState) → AllFail x → AllFail (apply_each origin arrived x)
each_fails origin [] x all = all
each_fails origin (a ∷ arrived) x all = each_fails origin arrived (proc_apply origin a.position x) (apply_fails origin a.position x all)

event_fails : (e : ProcEvent) (x : ProcState) → AllFail x → AllFail (after_event e x)
event_fails (Call calls to) x all = go (calls_here calls x)
  where
    go : (r : Result (List Rows) Failure) → AllFail (called_by r calls to x)
    go (Ok tables) = (tt, all)
    go (Err failure) = all
event_fails (Accept packet) x all = go packet (is_foreign packet x)
  where
    go : (packet : Packet) (b : Bool) → AllFail (cond b x (taken packet x))
    go packet true = all
    go (Carry from to number position dep past txn) false = all
    go (Mark from to mark) false = all
event_fails (Apply origin position) x all = apply_fails origin position x all
event_fails (Pass origin) x all = each_fails origin (arrivals origin (as_site x)) x all
event_fails (Execute origin position) x all = go (error_at origin position x.journal)
  where
    by : (e : ErrorEntry) (r : Result (List Rows) Failure) → AllFail (executed_by e r x)
    by e (Ok tables) = (tt, all)
    by e (Err failure) = all

    go : (found : Option ErrorEntry) → AllFail (executed_found found x)
    go None = all
    go (Some e) = by e (txn_here e.txn x)

events_fail : (es : List ProcEvent) (x : ProcState) → AllFail x → AllFail (after_events es x)
events_fail [] x all = all
events_fail (e ∷ es) x all = event_fails e (after_events es x) (events_fail es x all)

entry_fails : (schema : Schema) (procedures : List Procedure) (since : List Entry) (e : Entry) (before : List Entry) → EachBehind (FailsOn schema procedures) (since ++ e ∷ before) → FailsOn schema procedures e before
entry_fails schema procedures [] e before all = all.0
entry_fails schema procedures (s ∷ since) e before all = entry_fails schema procedures since e before all.1

entry_sent : (sites : List ProcState) (me : SiteName) (since : List Entry) (e : Entry) (before : List Entry) → AllByRecursion (EntryOfStreams sites me) (since ++ e ∷ before) → EntryOfStreams sites me e
entry_sent sites me [] e before all = all.0
entry_sent sites me (s ∷ since) e before all = entry_sent sites me since e before all.1

-- ---- what arrived is well numbered

abbrev dep_in : Packet → ℕ
dep_in (Carry from to number position dep past txn) = dep
dep_in (Mark from to mark) = 0

abbrev txn_in : Txn → Packet → Txn
txn_in other (Carry from to number position dep past txn) = txn
txn_in other (Mark from to mark) = other

-- an arrival is of its sender's stream
arrival_of_stream : (sites : List ProcState) (me origin : SiteName) (s : ProcState) → proc_of origin sites ≡ Some s → (a : Arrival) → HasArrived sites me origin a → IsOfStream s me a
arrival_of_stream sites me origin s found a has =
    let packet : Packet = Carry origin me a.number a.position a.dep a.past a.txn in
    let there : proc_packet me a.position s ≡ Some packet = subst (λ (o : Option ProcState). calls_from me a.position o ≡ Some packet) found has in
    let sent = is_sent s me a.position packet there in
    record { sent = sent.sent; cargo = sent.cargo; there = sent.there; carries = sent.carries; dep = ap dep_in sent.is; txn = ap (txn_in a.txn) sent.is }

-- what arrived of a sender
arrived_of : (sites : List ProcState) (me origin : SiteName) (ss : List SenderState) → AllByRecursion (SenderHasArrived sites me) ss → AllByRecursion (HasArrived sites me origin) (arrived_in (sender_of origin ss))
arrived_of sites me origin [] all = tt
arrived_of sites me origin (s ∷ ss) all = go (is_same_site s.origin origin) refl (arrived_of sites me origin ss all.1)
  where
    own : s.origin ≡ origin → AllByRecursion (HasArrived sites me origin) s.arrived
    own same = subst (λ (o : SiteName). AllByRecursion (HasArrived sites me o) s.arrived) same all.0

    go : (b : Bool) → is_same_site s.origin origin ≡ b → AllByRecursion (HasArrived sites me origin) (arrived_in (sender_of origin ss)) → AllByRecursion (HasArrived sites me origin) (arrived_in (cond b (Some s) (sender_of origin ss)))
    go true is later = own (is_same_site-true s.origin origin is)
    go false is later = later

none_numbered : AreWellNumbered []
none_numbered p q a b there_p there_q less shared = absurd (cc there_p)

well_numbered : (sites : List ProcState) (me origin : SiteName) (arrived : List Arrival) → AllByRecursion (HasArrived sites me origin) arrived → AreWellNumbered arrived
well_numbered sites me origin [] all = none_numbered
well_numbered sites me origin (a ∷ arrived) all = go (proc_of origin sites) refl all.0
  where
    go : (o : Option ProcState) → proc_of origin sites ≡ o → calls_from me a.position o ≡ Some (Carry origin me a.number a.position a.dep a.past a.txn) → AreWellNumbered (a ∷ arrived)
    go None found has = absurd (cc has)
    go (Some s) found has =
        streams_arrive_well_numbered s me (a ∷ arrived) (each_then (HasArrived sites me origin) (IsOfStream s me) (arrival_of_stream sites me origin s found) (a ∷ arrived) all)

-- ---- the laws

module _ (w : WorldState) (b : AreProcsBuilt w) where
  abbrev schema : Schema
  schema = proc_schema w.schema w.procs.tables

  -- where a site of procedures is there, they are made
  made_there : (site : SiteName) (x : ProcState) → proc_of site w.procs.sites ≡ Some x → AreProcsMade w
  made_there site x found = go (is_setup w.phase) refl
    where
      go : (setup : Bool) → is_setup w.phase ≡ setup → AreProcsMade w
      go false is = b.made is
      go true is =
          let none : proc_of site w.procs.sites ≡ None = ap (proc_of site) (b.none is) in
          absurd (cc (none, found))

  comes : (site : SiteName) (x : ProcState) → proc_of site w.procs.sites ≡ Some x → ComesFromCalls schema w.procs.procedures (early_masters w.schema) x
  comes site x found = site_comes w.schema w.procs (made_there site x found) site x found

  each_once : (site : SiteName) (x : ProcState) → proc_of site w.procs.sites ≡ Some x → IsFinishedOnce x.journal
  each_once site x found =
      let c = comes site x found in
      subst (λ (y : ProcState). IsFinishedOnce y.journal) (sym c.is) (are_finished_once schema w.procs.procedures x.me (without x.me (early_masters w.schema)) c.events)

  each_in_order : (site origin : SiteName) (x : ProcState) → proc_of site w.procs.sites ≡ Some x → EachBehind (ComesBehind x origin) x.journal
  each_in_order site origin x found =
      let c = comes site x found in
      let m = made_there site x found in
      let first : FinishesEarlierFirst x = subst FinishesEarlierFirst (sym c.is) (earlier_comes_first schema w.procs.procedures x.me (without x.me (early_masters w.schema)) c.events) in
      first origin (well_numbered w.procs.sites x.me origin (arrivals origin (as_site x))
      (arrived_of w.procs.sites x.me origin x.senders (all-proc_of (ArrivedOfStreams w.procs.sites) site w.procs.sites x m.streams.arrived found)))

  each_low : (from to : SiteName) (x : ProcState) → proc_of from w.procs.sites ≡ Some x → acked_by to x.acked ≤ low_at from (proc_of to w.procs.sites)
  each_low from to x found =
      let m = made_there from x found in
      subst (λ (n : SiteName). acked_by to x.acked ≤ low_at n (proc_of to w.procs.sites)) (name-proc_of from w.procs.sites x found) (all-proc_of (MarksAreLow w.procs.sites) from w.procs.sites x m.streams.marks found to)

  each_arrived : (site origin : SiteName) (position : ℕ) (x : ProcState) (a : Arrival) → proc_of site w.procs.sites ≡ Some x → arrived_at origin position x.senders ≡ Some a → CallsWereSent w.procs.sites origin site position a.txn
  each_arrived site origin position x a found arrived =
      let m = made_there site x found in
      let was = was_sent w.procs.sites x origin position a (all-proc_of (ArrivedOfStreams w.procs.sites) site w.procs.sites x m.streams.arrived found) arrived in
      subst (λ (n : SiteName). CallsWereSent w.procs.sites origin n position a.txn) (name-proc_of site w.procs.sites x found)
      (subst (λ (p : ℕ). CallsWereSent w.procs.sites origin x.me p a.txn) (arrived_has origin position (as_site x) a arrived) was)

  each_whole : (site origin : SiteName) (position : ℕ) (x : ProcState) (e : ErrorEntry) → proc_of site w.procs.sites ≡ Some x → error_at origin position x.journal ≡ Some e → IsWholeCallError w.procs.sites site origin position x e
  each_whole site origin position x e found stands =
      let c = comes site x found in
      let m = made_there site x found in
      let has = has_entry origin position x.journal e stands in
      let fail : AllFail x = subst AllFail (sym c.is) (events_fail c.events (proc_made schema w.procs.procedures (early_masters w.schema) x.me) tt) in
      let journal : JournalOfStreams w.procs.sites x = all-proc_of (JournalOfStreams w.procs.sites) site w.procs.sites x m.streams.journals found in
      let entry : Entry = Error origin position e.call e.error e.txn in
      let sent : CallsWereSent w.procs.sites origin x.me position e.txn =
      entry_sent w.procs.sites x.me has.since entry has.before (subst (λ (es : List Entry). AllByRecursion (EntryOfStreams w.procs.sites x.me) es) has.is journal) in
      record {
        since = has.since;
        before = has.before;
        journal = has.is;
        sent = subst (λ (n : SiteName). CallsWereSent w.procs.sites origin n position e.txn) (name-proc_of site w.procs.sites x found) sent;
        fails = entry_fails x.schema x.procedures has.since entry has.before (subst (EachBehind (FailsOn x.schema x.procedures)) has.is fail);
        tables = refl;
      }

  -- the laws hold of what a world has of procedures
  pub procedures_hold_of : ProceduresHold w
  procedures_hold_of = record {
    fits = λ site x found. site_fits w.schema w.procs (made_there site x found) site x found;
    once = each_once;
    order = each_in_order;
    low = each_low;
    arrived = each_arrived;
    errors = each_whole;
  }

pub procedures_hold_in_scripts : ProceduresHoldInScripts
procedures_hold_in_scripts lines named = procedures_hold_of _ (scripts_procs lines named)
