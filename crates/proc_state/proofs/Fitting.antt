-- What fits at a site of procedures goes on to fit.
use Rattle.std.proofs.Common.{◌≡◌, ℕ, ◌+◌, ◌<◌, List, [], ◌∷◌, map, Bool, true, false, cond, not, Some, None, refl, arith}
use Rattle.std.specs.Prelude.{◌||◌, Option, Result, Ok, Err, is_none}
use Rattle.std.specs.List.{AllByRecursion}
use Rattle.std.specs.Ordering.{nat_cmp}
use Rattle.std.proofs.lemmas.Cmp.{nat_cmp_total}
use Rattle.std.proofs.lemmas.List.{length-map}
use Rattle.rep_lists.specs.Rising.{put_at}
use Rattle.rep_lists.proofs.Rising.{rising_put, all_put}
use Rattle.rep_lists.proofs.Each.{each_then}
use Rattle.rep_values.specs.declared.name.SiteName.{SiteName}
use Rattle.rep_schema.specs.declared.schema.Schema.{Schema}
use Rattle.rep_schema.specs.Tables.{Rows}
use Rattle.rep_calls.specs.declared.call.Txn.{Txn}
use Rattle.rep_calls.specs.declared.past.PastEntry.{PastEntry}
use Rattle.txn_effects.specs.Transactions.{Failure}
use Rattle.rep_values.specs.SiteNames.{is_same_site}
use Rattle.packet_code.specs.declared.packet.Packet.{Packet}
use Rattle.packet_code.specs.declared.packet.Packet.TheVariants.{Carry, Mark}
use Rattle.packet_code.specs.Limits.{IsPacket}
use Rattle.error_queue.specs.declared.entry.ErrorEntry.{ErrorEntry}
use Rattle.site_state.specs.declared.entry.Entry.{Entry}
use Rattle.site_state.specs.declared.entry.Entry.TheVariants.{Local, Done, Error, Executed}
use Rattle.site_state.specs.declared.answers.Why.{Why}
use Rattle.site_state.specs.declared.arrival.Arrival.{Arrival}
use Rattle.site_state.specs.State.{SenderState, sender_of, at_sender, arrival_beside, arrived_in, arrived_at, arrivals}
use Rattle.site_state.specs.Arrivals.{NamesOthers, CanPass}
use Rattle.site_state.specs.Journal.{error_at}
use Rattle.site_state.specs.Packets.{with_arrival, arrived_by}
use Rattle.site_state.specs.Ready.{stale_of}
use Rattle.site_state.specs.Fits.{EntryHas, SendersHave, SchemaIsKeyed}
use Rattle.site_state.specs.Making.{new_sender}
use Rattle.site_state.specs.Steps.{is_empty}
use Rattle.site_state.proofs.FittingSites.{arrived_has, error_has, senders_put}
use Rattle.proc_state.specs.declared.procedure.Procedure.{Procedure}
use Rattle.proc_state.specs.declared.call.ProcCall.{ProcCall}
use Rattle.proc_state.specs.Calls.{AreProcedures}
use Rattle.proc_state.specs.Carriers.{carried, carried_txn, is_carried}
use Rattle.proc_state.specs.State.{ProcState, new_proc, as_site, proc_count, journalled}
use Rattle.proc_state.specs.Calling.{calls_here, called_by, proc_call}
use Rattle.proc_state.specs.Packets.{is_foreign, taken, proc_accept}
use Rattle.proc_state.specs.Passes.{txn_here, finished_by, applied_unless, proc_apply, apply_each, proc_pass}
use Rattle.proc_state.specs.Errors.{executed_by, executed_found, proc_execute}
use Rattle.proc_state.specs.Fits.{IsProcTxn, ArePassable, SendersPass, ProcFits}
use Rattle.proc_state.specs.Events.{ProcEvent, Call, Accept, Apply, Pass, Execute, after_event, after_events, AreCalls, PacketFits, EventFits}
use Rattle.proc_state.specs.Laws.{EverySiteCanPass, EverySiteFits}
use Rattle.proc_state.proofs.Carrying.{neither, isnt_not, is_carried-carried}
use Rattle.proc_state.proofs.CallTables.{AreTables-journal_tables}
use Rattle.proc_state.proofs.Names.{events_names}

-- ---- what isn't foreign

none_in : {X : Type 0} (xs : List X) → is_empty xs ≡ true → xs ≡ []
none_in [] is = refl
none_in (x ∷ xs) is = cc

-- what a packet that isn't foreign carries is calls with an empty past
record IsOurs (past : List PastEntry) (txn : Txn) (x : ProcState) : Type 0 where
  form : is_carried x.schema x.procedures txn ≡ true
  pastless : past ≡ []

ours : (from to : SiteName) (number position dep : ℕ) (past : List PastEntry) (txn : Txn) (x : ProcState) → is_foreign (Carry from to number position dep past txn) x ≡ false → IsOurs past txn x
ours from to number position dep past txn x is =
    let last = neither (not (is_same_site to x.me) || is_none (sender_of from x.senders) || not (is_carried x.schema x.procedures txn)) (not (is_empty past)) is in
    let third = neither (not (is_same_site to x.me) || is_none (sender_of from x.senders)) (not (is_carried x.schema x.procedures txn)) last.0 in
    record { form = isnt_not (is_carried x.schema x.procedures txn) third.1; pastless = none_in past (isnt_not (is_empty past) last.1) }

-- ---- what arrived can be passed

none_passable : ArePassable []
none_passable = record { rising = tt; earlier = tt; pasts = tt }

put_passable : (a : Arrival) (arrived : List Arrival) → a.dep < a.position → a.past ≡ [] → ArePassable arrived → ArePassable (put_at (arrival_beside a.position) a arrived)
put_passable a arrived earlier none can = record {
  rising = rising_put (λ (a : Arrival). a.position) nat_cmp nat_cmp_total a arrived can.rising;
  earlier = all_put (arrival_beside a.position) (λ (a : Arrival). a.dep < a.position) a arrived earlier can.earlier;
  pasts = all_put (arrival_beside a.position) (λ (a : Arrival). a.past ≡ []) a arrived none can.pasts;
}

senders_pass : (from : SiteName) (a : Arrival) (ss : List SenderState) → a.dep < a.position → a.past ≡ [] → SendersPass ss → SendersPass (at_sender from (with_arrival a) ss)
senders_pass from a [] earlier none all = tt
senders_pass from a (s ∷ ss) earlier none all = go (is_same_site s.origin from) (senders_pass from a ss earlier none all.1)
  where
    go : (b : Bool) → SendersPass (at_sender from (with_arrival a) ss) → SendersPass (cond b (with_arrival a s ∷ ss) (s ∷ at_sender from (with_arrival a) ss))
    go true later = (put_passable a s.arrived earlier none all.0, all.1)
    go false later = (all.0, later)

arrivals_passable : (origin : SiteName) (ss : List SenderState) → SendersPass ss → ArePassable (arrived_in (sender_of origin ss))
arrivals_passable origin [] all = none_passable
arrivals_passable origin (s ∷ ss) all = go (is_same_site s.origin origin) (arrivals_passable origin ss all.1)
  where
    go : (b : Bool) → ArePassable (arrived_in (sender_of origin ss)) → ArePassable (arrived_in (cond b (Some s) (sender_of origin ss)))
    go true later = all.0
    go false later = later

pub every_site_can_pass : EverySiteCanPass
every_site_can_pass x fits origin = arrivals_passable origin x.senders fits.passable

-- so it can be passed as at any other site
pub CanPass-fits : (x : ProcState) → ProcFits x → (origin : SiteName) → CanPass origin (arrivals origin (as_site x))
CanPass-fits x fits origin =
    let can = every_site_can_pass x fits origin in
    record {
      rising = can.rising;
      earlier = can.earlier;
      others = each_then (λ (a : Arrival). a.past ≡ []) (λ (a : Arrival). NamesOthers origin a.past) (λ a none. rw none refl) (arrivals origin (as_site x)) can.pasts;
    }

-- ---- a transaction that is found is one of calls

pub fits_arrived : (x : ProcState) → ProcFits x → (origin : SiteName) (position : ℕ) (a : Arrival) → arrived_at origin position x.senders ≡ Some a → IsProcTxn x.schema x.procedures a.txn
fits_arrived x fits origin position a there = arrived_has (IsProcTxn x.schema x.procedures) origin position x.senders a fits.senders there

pub fits_error : (x : ProcState) → ProcFits x → (origin : SiteName) (position : ℕ) (e : ErrorEntry) → error_at origin position x.journal ≡ Some e → IsProcTxn x.schema x.procedures e.txn
fits_error x fits origin position e stood = error_has (IsProcTxn x.schema x.procedures) origin position x.journal e fits.journal stood

-- calls that fit are carried in one
pub IsProcTxn-carried : (schema : Schema) (procedures : List Procedure) (calls : List ProcCall) → AreProcedures schema procedures → AreCalls schema procedures calls
    → IsProcTxn schema procedures (carried_txn schema procedures calls)
IsProcTxn-carried schema procedures calls are made = record {
  form = is_carried-carried schema procedures are calls made.fit;
  some = omega (arith, made.some, length-map calls (carried schema procedures));
  most = omega (arith, made.most, length-map calls (carried schema procedures));
}

-- ---- each call

-- one entry more, whose transaction is one of calls
pub ProcFits-journalled : (e : Entry) (x : ProcState) → EntryHas (IsProcTxn x.schema x.procedures) e → ProcFits x → ProcFits (journalled e x)
ProcFits-journalled e x has h = record {
  keyed = h.keyed;
  procedures = h.procedures;
  tables = AreTables-journal_tables x.schema x.procedures h.procedures (e ∷ x.journal);
  journal = (has, h.journal);
  senders = h.senders;
  passable = h.passable;
}

pub ProcFits-proc_call : (calls : List ProcCall) (to : List SiteName) (x : ProcState) → AreCalls x.schema x.procedures calls → ProcFits x → ProcFits (proc_call calls to x)
ProcFits-proc_call calls to x made h = go (calls_here calls x)
  where
    txn : Txn
    txn = carried_txn x.schema x.procedures calls

    go : (r : Result (List Rows) Failure) → ProcFits (called_by r calls to x)
    go (Ok tables) = record {
      keyed = h.keyed;
      procedures = h.procedures;
      tables = AreTables-journal_tables x.schema x.procedures h.procedures (Local (proc_count x + 1) txn ∷ x.journal);
      journal = (IsProcTxn-carried x.schema x.procedures calls h.procedures made, h.journal);
      senders = h.senders;
      passable = h.passable;
    }
    go (Err failure) = h

pub ProcFits-proc_accept : (packet : Packet) (x : ProcState) → PacketFits packet → ProcFits x → ProcFits (proc_accept packet x)
ProcFits-proc_accept packet x is h = go packet is (is_foreign packet x) refl
  where
    put_has : (from : SiteName) (a : Arrival) → IsProcTxn x.schema x.procedures a.txn → (found : Option Arrival) → SendersHave (IsProcTxn x.schema x.procedures) (arrived_by found from a (as_site x)).senders
    put_has from a has None = senders_put (IsProcTxn x.schema x.procedures) from a x.senders has h.senders
    put_has from a has (Some before) = h.senders

    put_passes : (from : SiteName) (a : Arrival) → a.dep < a.position → a.past ≡ [] → (found : Option Arrival) → SendersPass (arrived_by found from a (as_site x)).senders
    put_passes from a earlier none None = senders_pass from a x.senders earlier none h.passable
    put_passes from a earlier none (Some before) = h.passable

    carried_in : (from to : SiteName) (number position dep : ℕ) (past : List PastEntry) (txn : Txn) → PacketFits (Carry from to number position dep past txn) → IsOurs past txn x
        → ProcFits (taken (Carry from to number position dep past txn) x)
    carried_in from to number position dep past txn fits own =
        let a : Arrival = record { position = position; number = number; dep = dep; past = past; txn = txn } in
        record {
          keyed = h.keyed;
          procedures = h.procedures;
          tables = h.tables;
          journal = h.journal;
          senders = put_has from a (record { form = own.form; some = fits.1; most = fits.2 }) (arrived_at from position x.senders);
          passable = put_passes from a fits.0 own.pastless (arrived_at from position x.senders);
        }

    go : (packet : Packet) → PacketFits packet → (b : Bool) → is_foreign packet x ≡ b → ProcFits (cond b x (taken packet x))
    go packet fits true own = h
    go (Carry from to number position dep past txn) fits false own = carried_in from to number position dep past txn fits (ours from to number position dep past txn x own)
    go (Mark from to mark) fits false own = record { keyed = h.keyed; procedures = h.procedures; tables = h.tables; journal = h.journal; senders = h.senders; passable = h.passable }

pub ProcFits-proc_apply : (origin : SiteName) (position : ℕ) (x : ProcState) → ProcFits x → ProcFits (proc_apply origin position x)
ProcFits-proc_apply origin position x h = go (stale_of origin position (as_site x)) (arrived_at origin position x.senders) refl
  where
    by : (a : Arrival) → IsProcTxn x.schema x.procedures a.txn → (r : Result (List Rows) Failure) → ProcFits (finished_by origin a r x)
    by a has (Ok tables) = ProcFits-journalled (Done origin a.position 0 a.txn) x has h
    by a has (Err failure) = ProcFits-journalled (Error origin a.position failure.call failure.error a.txn) x has h

    go : (stale : Option Why) (found : Option Arrival) → arrived_at origin position x.senders ≡ found → ProcFits (applied_unless stale origin found x)
    go (Some reason) found there = h
    go None None there = h
    go None (Some a) there = by a (fits_arrived x h origin position a there) (txn_here a.txn x)

pub ProcFits-apply_each : (origin : SiteName) (arrived : List Arrival) (x : ProcState) → ProcFits x → ProcFits (apply_each origin arrived x)
ProcFits-apply_each origin [] x h = h
ProcFits-apply_each origin (a ∷ arrived) x h = ProcFits-apply_each origin arrived (proc_apply origin a.position x) (ProcFits-proc_apply origin a.position x h)

pub ProcFits-proc_pass : (origin : SiteName) (x : ProcState) → ProcFits x → ProcFits (proc_pass origin x)
ProcFits-proc_pass origin x h = ProcFits-apply_each origin (arrivals origin (as_site x)) x h

pub ProcFits-proc_execute : (origin : SiteName) (position : ℕ) (x : ProcState) → ProcFits x → ProcFits (proc_execute origin position x)
ProcFits-proc_execute origin position x h = go (error_at origin position x.journal) refl
  where
    by : (e : ErrorEntry) → IsProcTxn x.schema x.procedures e.txn → (r : Result (List Rows) Failure) → ProcFits (executed_by e r x)
    by e has (Ok tables) = ProcFits-journalled (Executed e.origin e.position 0 e.txn) x has h
    by e has (Err failure) = h

    go : (found : Option ErrorEntry) → error_at origin position x.journal ≡ found → ProcFits (executed_found found x)
    go None stood = h
    go (Some e) stood = by e (fits_error x h origin position e stood) (txn_here e.txn x)

-- ---- whatever happens

pub ProcFits-after_event : (e : ProcEvent) (x : ProcState) → EventFits x.schema x.procedures e → ProcFits x → ProcFits (after_event e x)
ProcFits-after_event (Call calls to) x fits h = ProcFits-proc_call calls to x fits h
ProcFits-after_event (Accept packet) x fits h = ProcFits-proc_accept packet x fits h
ProcFits-after_event (Apply origin position) x fits h = ProcFits-proc_apply origin position x h
ProcFits-after_event (Pass origin) x fits h = ProcFits-proc_pass origin x h
ProcFits-after_event (Execute origin position) x fits h = ProcFits-proc_execute origin position x h

pub ProcFits-after_events : (es : List ProcEvent) (x : ProcState) → AllByRecursion (EventFits x.schema x.procedures) es → ProcFits x → ProcFits (after_events es x)
ProcFits-after_events [] x fits h = h
ProcFits-after_events (e ∷ es) x fits h =
    let kept = events_names es x in
    ProcFits-after_event e (after_events es x) (rw (kept.schema, kept.procedures) fits.0) (ProcFits-after_events es x fits.1 h)

new_senders : (P : Txn → Type 0) (masters : List SiteName) → SendersHave P (map new_sender masters)
new_senders P [] = tt
new_senders P (master ∷ masters) = (tt, new_senders P masters)

new_pass : (masters : List SiteName) → SendersPass (map new_sender masters)
new_pass [] = tt
new_pass (master ∷ masters) = (none_passable, new_pass masters)

pub ProcFits-new_proc : (schema : Schema) (procedures : List Procedure) (me : SiteName) (masters : List SiteName) → SchemaIsKeyed schema → AreProcedures schema procedures → ProcFits (new_proc schema procedures me masters)
ProcFits-new_proc schema procedures me masters keyed are = record {
  keyed = keyed;
  procedures = are;
  tables = AreTables-journal_tables schema procedures are [];
  journal = tt;
  senders = new_senders (IsProcTxn schema procedures) masters;
  passable = new_pass masters;
}

pub every_site_fits : EverySiteFits
every_site_fits schema procedures me masters events keyed are fits =
    ProcFits-after_events events (new_proc schema procedures me masters) fits (ProcFits-new_proc schema procedures me masters keyed are)

-- a packet within all limits fits
pub PacketFits-IsPacket : (packet : Packet) → IsPacket packet → PacketFits packet
PacketFits-IsPacket (Carry from to number position dep past txn) is = (is.at.earlier, is.sent.some, is.sent.most)
PacketFits-IsPacket (Mark from to mark) is = tt
