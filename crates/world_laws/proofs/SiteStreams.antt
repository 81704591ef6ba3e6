-- What arrived at a site of procedures and what is acknowledged there goes on to be of the streams of the others.
use Rattle.std.proofs.Common.{◌≡◌, ℕ, ◌≤◌, max, List, [], ◌∷◌, map, Bool, true, false, cond, not, Some, None, Ok, Err, refl, sym, ◌∙◌, arith, subst}
use Rattle.std.specs.Prelude.{◌||◌, Option, Result, is_none}
use Rattle.std.specs.List.{AllByRecursion}
use Rattle.rep_lists.proofs.Rising.{all_put}
use Rattle.rep_lists.proofs.Each.{each_then}
use Rattle.rep_values.specs.declared.name.SiteName.{SiteName}
use Rattle.rep_schema.specs.Tables.{Rows}
use Rattle.rep_calls.specs.declared.call.Txn.{Txn}
use Rattle.rep_calls.specs.declared.past.PastEntry.{PastEntry}
use Rattle.txn_effects.specs.Transactions.{Failure}
use Rattle.deferred_queue.specs.Streams.{Mark as Acked, acked_by, raised_mark}
use Rattle.rep_values.specs.SiteNames.{is_same_site}
use Rattle.deferred_queue.proofs.Sites.{is_same_site-true}
use Rattle.packet_code.specs.declared.packet.Packet.{Packet}
use Rattle.packet_code.specs.declared.packet.Packet.TheVariants.{Carry, Mark}
use Rattle.error_queue.specs.declared.entry.ErrorEntry.{ErrorEntry}
use Rattle.site_state.specs.declared.entry.Entry.{Entry}
use Rattle.site_state.specs.declared.entry.Entry.TheVariants.{Local, Done, Error, Executed, Dropped, Refreshed}
use Rattle.site_state.specs.declared.answers.Why.{Why}
use Rattle.site_state.specs.declared.arrival.Arrival.{Arrival}
use Rattle.site_state.specs.State.{SenderState, sender_of, at_sender, arrival_beside, arrived_at, arrivals}
use Rattle.rep_schema.specs.Sites.{is_among}
use Rattle.site_state.specs.Packets.{with_arrival, arrived_by}
use Rattle.site_state.specs.Journal.{error_at}
use Rattle.site_state.specs.Ready.{stale_of}
use Rattle.site_state.specs.Steps.{is_empty}
use Rattle.proc_state.specs.declared.call.ProcCall.{ProcCall}
use Rattle.proc_state.specs.Carriers.{is_carried}
use Rattle.proc_state.specs.State.{ProcState, as_site, other_masters}
use Rattle.proc_state.specs.Calling.{calls_here, called_by, proc_call}
use Rattle.proc_state.specs.Packets.{is_foreign, taken, proc_accept}
use Rattle.proc_state.specs.Passes.{txn_here, finished_by, applied_unless, proc_apply, apply_each, proc_pass}
use Rattle.proc_state.specs.Errors.{executed_by, executed_found, proc_execute}
use Rattle.proc_state.proofs.Carrying.{neither, isnt_not}
use Rattle.event_laws.proofs.Waiting.{arrival_holds}
use Rattle.world_state.specs.Procs.{proc_of}
use Rattle.world_laws.specs.Streams.{low_at, IsOfStreams, HasArrived, SenderHasArrived, ArrivedOfStreams, MarksAreLow, CallsWereSent, EntryOfStreams, JournalOfStreams}
use Rattle.world_laws.proofs.Sites.{AllGrow, of_streams-grow, low_grows}

-- what was of the streams stays so
pub record KeepsStreams (sites : List ProcState) (x y : ProcState) : Type 0 where
  pub arrived : ArrivedOfStreams sites x → ArrivedOfStreams sites y
  pub marks : MarksAreLow sites x → MarksAreLow sites y
  pub journal : ArrivedOfStreams sites x → JournalOfStreams sites x → JournalOfStreams sites y

pub keeps_same : (sites : List ProcState) (x : ProcState) → KeepsStreams sites x x
keeps_same sites x = record { arrived = λ all. all; marks = λ low. low; journal = λ all journal. journal }

pub keeps_then : (sites : List ProcState) (x y z : ProcState) → KeepsStreams sites x y → KeepsStreams sites y z → KeepsStreams sites x z
keeps_then sites x y z first second = record {
  arrived = λ all. second.arrived (first.arrived all);
  marks = λ low. second.marks (first.marks low);
  journal = λ all journal. second.journal (first.arrived all) (first.journal all journal);
}

-- ---- the other sites grow

pub arrived-grow : (old new : List ProcState) → AllGrow old new → (x : ProcState) → ArrivedOfStreams old x → ArrivedOfStreams new x
arrived-grow old new grow x all =
    each_then (SenderHasArrived old x.me) (SenderHasArrived new x.me)
    (λ s has. each_then (HasArrived old x.me s.origin) (HasArrived new x.me s.origin)
    (λ a is. of_streams-grow old new grow (Carry s.origin x.me a.number a.position a.dep a.past a.txn) is) s.arrived has)
    x.senders all

pub marks-grow : (old new : List ProcState) → AllGrow old new → (x : ProcState) → MarksAreLow old x → MarksAreLow new x
marks-grow old new grow x low to = omega (arith, low to, low_grows old new grow x.me to)

sent-grow : (old new : List ProcState) → AllGrow old new → (from to : SiteName) (position : ℕ) (txn : Txn) → CallsWereSent old from to position txn → CallsWereSent new from to position txn
sent-grow old new grow from to position txn was = record {
  number = was.number;
  dep = was.dep;
  past = was.past;
  is = of_streams-grow old new grow (Carry from to was.number position was.dep was.past txn) was.is;
}

pub journal-grow : (old new : List ProcState) → AllGrow old new → (x : ProcState) → JournalOfStreams old x → JournalOfStreams new x
journal-grow old new grow x all = each_then (EntryOfStreams old x.me) (EntryOfStreams new x.me) entry x.journal all
  where
    entry : (e : Entry) → EntryOfStreams old x.me e → EntryOfStreams new x.me e
    entry (Local number txn) was = tt
    entry (Done origin position onward txn) was = sent-grow old new grow origin x.me position txn was
    entry (Error origin position call error txn) was = sent-grow old new grow origin x.me position txn was
    entry (Executed origin position onward txn) was = tt
    entry (Dropped origin position) was = tt
    entry (Refreshed moment) was = tt

-- ---- a site works: nothing arrives and no mark comes

-- one entry more
entry_keeps : (sites : List ProcState) (e : Entry) (x : ProcState) → (ArrivedOfStreams sites x → EntryOfStreams sites x.me e) → KeepsStreams sites x (record x { journal = e ∷ x.journal })
entry_keeps sites e x has = record { arrived = λ all. all; marks = λ low. low; journal = λ all journal. (has all, journal) }

pub call_keeps : (sites : List ProcState) (calls : List ProcCall) (to : List SiteName) (x : ProcState) → KeepsStreams sites x (proc_call calls to x)
call_keeps sites calls to x = go (calls_here calls x)
  where
    go : (r : Result (List Rows) Failure) → KeepsStreams sites x (called_by r calls to x)
    go (Ok tables) = record { arrived = λ all. all; marks = λ low. low; journal = λ all journal. (tt, journal) }
    go (Err failure) = keeps_same sites x

-- what arrived at a position was sent there
pub was_sent : (sites : List ProcState) (x : ProcState) (origin : SiteName) (position : ℕ) (a : Arrival) → ArrivedOfStreams sites x → arrived_at origin position x.senders ≡ Some a
    → CallsWereSent sites origin x.me a.position a.txn
was_sent sites x origin position a all found = record { number = a.number; dep = a.dep; past = a.past; is = arrival_holds (HasArrived sites x.me) origin position x.senders a all found }

pub apply_keeps : (sites : List ProcState) (origin : SiteName) (position : ℕ) (x : ProcState) → KeepsStreams sites x (proc_apply origin position x)
apply_keeps sites origin position x = go (stale_of origin position (as_site x)) (arrived_at origin position x.senders) refl
  where
    by : (a : Arrival) → arrived_at origin position x.senders ≡ Some a → (r : Result (List Rows) Failure) → KeepsStreams sites x (finished_by origin a r x)
    by a found (Ok tables) = entry_keeps sites (Done origin a.position 0 a.txn) x (λ all. was_sent sites x origin position a all found)
    by a found (Err failure) = entry_keeps sites (Error origin a.position failure.call failure.error a.txn) x (λ all. was_sent sites x origin position a all found)

    go : (stale : Option Why) (found : Option Arrival) → arrived_at origin position x.senders ≡ found → KeepsStreams sites x (applied_unless stale origin found x)
    go (Some reason) found is = keeps_same sites x
    go None None is = keeps_same sites x
    go None (Some a) is = by a is (txn_here a.txn x)

each_keeps : (sites : List ProcState) (origin : SiteName) (arrived : List Arrival) (x : ProcState) → KeepsStreams sites x (apply_each origin arrived x)
each_keeps sites origin [] x = keeps_same sites x
each_keeps sites origin (a ∷ arrived) x = keeps_then sites x (proc_apply origin a.position x) (apply_each origin arrived (proc_apply origin a.position x))
    (apply_keeps sites origin a.position x) (each_keeps sites origin arrived (proc_apply origin a.position x))

pub pass_keeps : (sites : List ProcState) (origin : SiteName) (x : ProcState) → KeepsStreams sites x (proc_pass origin x)
pass_keeps sites origin x = each_keeps sites origin (arrivals origin (as_site x)) x

pub execute_keeps : (sites : List ProcState) (origin : SiteName) (position : ℕ) (x : ProcState) → KeepsStreams sites x (proc_execute origin position x)
execute_keeps sites origin position x = go (error_at origin position x.journal)
  where
    by : (e : ErrorEntry) (r : Result (List Rows) Failure) → KeepsStreams sites x (executed_by e r x)
    by e (Ok tables) = entry_keeps sites (Executed e.origin e.position 0 e.txn) x (λ all. tt)
    by e (Err failure) = keeps_same sites x

    go : (found : Option ErrorEntry) → KeepsStreams sites x (executed_found found x)
    go None = keeps_same sites x
    go (Some e) = by e (txn_here e.txn x)

-- ---- a packet comes

-- one arrival more
senders_arrived : (sites : List ProcState) (me from : SiteName) (a : Arrival) (ss : List SenderState) → HasArrived sites me from a → AllByRecursion (SenderHasArrived sites me) ss
    → AllByRecursion (SenderHasArrived sites me) (at_sender from (with_arrival a) ss)
senders_arrived sites me from a [] has all = tt
senders_arrived sites me from a (s ∷ ss) has all = go (is_same_site s.origin from) refl (senders_arrived sites me from a ss has all.1)
  where
    own : s.origin ≡ from → HasArrived sites me s.origin a
    own same = subst (λ (o : SiteName). HasArrived sites me o a) (sym same) has

    go : (b : Bool) → is_same_site s.origin from ≡ b → AllByRecursion (SenderHasArrived sites me) (at_sender from (with_arrival a) ss)
        → AllByRecursion (SenderHasArrived sites me) (cond b (with_arrival a s ∷ ss) (s ∷ at_sender from (with_arrival a) ss))
    go true is later = (all_put (arrival_beside a.position) (HasArrived sites me s.origin) a s.arrived (own (is_same_site-true s.origin from is)) all.0, all.1)
    go false is later = (all.0, later)

-- a mark that is raised
raised_low : (to from : SiteName) (mark bound : ℕ) (ms : List Acked) → (to ≡ from → mark ≤ bound) → acked_by to ms ≤ bound → acked_by to (map (raised_mark from mark) ms) ≤ bound
raised_low to from mark bound [] raised low = low
raised_low to from mark bound (m ∷ ms) raised low = go (is_same_site m.site from) refl (is_same_site m.site to) refl low (raised_low to from mark bound ms raised)
  where
    rest : ℕ
    rest = acked_by to (map (raised_mark from mark) ms)

    both : is_same_site m.site from ≡ true → is_same_site m.site to ≡ true → mark ≤ bound
    both here there = raised (sym (is_same_site-true m.site to there) ∙ is_same_site-true m.site from here)

    go : (b : Bool) → is_same_site m.site from ≡ b → (c : Bool) → is_same_site m.site to ≡ c → cond c m.acked (acked_by to ms) ≤ bound → (acked_by to ms ≤ bound → rest ≤ bound)
        → acked_by to (cond b (record { site = m.site; acked = max m.acked mark }) m ∷ map (raised_mark from mark) ms) ≤ bound
    go true here true there low later = rw there (omega (arith, low, both here there))
    go true here false there low later = rw there (later low)
    go false here true there low later = rw there low
    go false here false there low later = rw there (later low)

-- it is for this site
own_site : (from to : SiteName) (number position dep : ℕ) (past : List PastEntry) (txn : Txn) (x : ProcState) → is_foreign (Carry from to number position dep past txn) x ≡ false → to ≡ x.me
own_site from to number position dep past txn x is =
    let last = neither (not (is_same_site to x.me) || is_none (sender_of from x.senders) || not (is_carried x.schema x.procedures txn)) (not (is_empty past)) is in
    let third = neither (not (is_same_site to x.me) || is_none (sender_of from x.senders)) (not (is_carried x.schema x.procedures txn)) last.0 in
    let second = neither (not (is_same_site to x.me)) (is_none (sender_of from x.senders)) third.0 in
    is_same_site-true to x.me (isnt_not (is_same_site to x.me) second.0)

own_mark : (from to : SiteName) (mark : ℕ) (x : ProcState) → is_foreign (Mark from to mark) x ≡ false → to ≡ x.me
own_mark from to mark x is =
    let last = neither (not (is_same_site to x.me) || not (is_among (other_masters x) from)) _ is in
    let second = neither (not (is_same_site to x.me)) (not (is_among (other_masters x) from)) last.0 in
    is_same_site-true to x.me (isnt_not (is_same_site to x.me) second.0)

pub accept_keeps : (sites : List ProcState) (packet : Packet) (x : ProcState) → IsOfStreams sites packet → KeepsStreams sites x (proc_accept packet x)
accept_keeps sites packet x is = go packet is (is_foreign packet x) refl
  where
    carried_in : (from to : SiteName) (number position dep : ℕ) (past : List PastEntry) (txn : Txn) → to ≡ x.me → IsOfStreams sites (Carry from to number position dep past txn)
        → ArrivedOfStreams sites x → ArrivedOfStreams sites (taken (Carry from to number position dep past txn) x)
    carried_in from to number position dep past txn same is all = by (arrived_at from position x.senders)
      where
        arrival : Arrival
        arrival = record { position = position; number = number; dep = dep; past = past; txn = txn }

        has : HasArrived sites x.me from arrival
        has = subst (λ (here : SiteName). IsOfStreams sites (Carry from here number position dep past txn)) same is

        by : (found : Option Arrival) → AllByRecursion (SenderHasArrived sites x.me) (arrived_by found from arrival (as_site x)).senders
        by None = senders_arrived sites x.me from arrival x.senders has all
        by (Some before) = all

    marked : (from to : SiteName) (mark : ℕ) → to ≡ x.me → IsOfStreams sites (Mark from to mark) → MarksAreLow sites x → MarksAreLow sites (taken (Mark from to mark) x)
    marked from to mark same is low other =
        raised_low other from mark (low_at x.me (proc_of other sites)) x.acked
        (λ here. subst (λ (n : SiteName). mark ≤ low_at x.me (proc_of n sites)) (sym here) (subst (λ (n : SiteName). mark ≤ low_at n (proc_of from sites)) same is)) (low other)

    go : (packet : Packet) → IsOfStreams sites packet → (b : Bool) → is_foreign packet x ≡ b → KeepsStreams sites x (cond b x (taken packet x))
    go packet is true foreign = keeps_same sites x
    go (Carry from to number position dep past txn) is false foreign = record {
      arrived = carried_in from to number position dep past txn (own_site from to number position dep past txn x foreign) is;
      marks = λ low. low;
      journal = λ all journal. journal;
    }
    go (Mark from to mark) is false foreign = record { arrived = λ all. all; marks = marked from to mark (own_mark from to mark x foreign) is; journal = λ all journal. journal }
