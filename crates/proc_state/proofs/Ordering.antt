-- Whatever happens at a site of procedures, positions are finished once, and the earlier of two that share a token first.
use Rattle.std.proofs.Common.{◌≡◌, ◌≢◌, ℕ, ◌+◌, ◌≤◌, List, [], ◌∷◌, Bool, true, false, cond, Some, None, refl, ◌∙◌, arith}
use Rattle.std.specs.Prelude.{◌||◌, Option, IfSome, Result, Ok, Err}
use Rattle.std.specs.List.{list_any}
use Rattle.rep_values.specs.declared.name.SiteName.{SiteName}
use Rattle.rep_schema.specs.declared.schema.Schema.{Schema}
use Rattle.rep_schema.specs.Tables.{Rows}
use Rattle.rep_calls.specs.declared.call.Txn.{Txn}
use Rattle.rep_calls.specs.declared.past.PastEntry.{PastEntry}
use Rattle.txn_effects.specs.Transactions.{Failure}
use Rattle.packet_code.specs.declared.packet.Packet.{Packet}
use Rattle.packet_code.specs.declared.packet.Packet.TheVariants.{Carry, Mark}
use Rattle.error_queue.specs.declared.entry.ErrorEntry.{ErrorEntry}
use Rattle.site_state.specs.declared.entry.Entry.{Entry}
use Rattle.site_state.specs.declared.entry.Entry.TheVariants.{Local, Done, Error, Executed, Dropped, Refreshed}
use Rattle.site_state.specs.declared.answers.Why.{Why}
use Rattle.site_state.specs.declared.answers.Why.TheVariants as why
use Rattle.site_state.specs.declared.arrival.Arrival.{Arrival}
use Rattle.site_state.specs.State.{SiteState, arrived_at, arrivals}
use Rattle.site_state.specs.Journal.{finishes, finished, error_at, is_position}
use Rattle.site_state.specs.Packets.{arrived_by}
use Rattle.site_state.specs.Ready.{is_due, stale_found, stale_of}
use Rattle.site_state.specs.Fits.{FinishedHaveArrived}
use Rattle.rep_lists.specs.Counting.{count_where}
use Rattle.site_state.proofs.Stepping.{IsTaken, MayFollow, with_entry, Journals, no_entry, one_entry, arrived_has, is_position-true, error_found}
use Rattle.site_state.proofs.Pasts.{arrived_at-put, finished_have_arrived}
use Rattle.site_state.specs.Waited.{EachBehind, HasWaited, HaveWaited, IsFinishedOnce}
use Rattle.site_state.proofs.Waited.{have_waited, HaveWaited-put}
use Rattle.proc_state.specs.declared.procedure.Procedure.{Procedure}
use Rattle.proc_state.specs.declared.call.ProcCall.{ProcCall}
use Rattle.proc_state.specs.State.{ProcState, new_proc, as_site}
use Rattle.proc_state.specs.Calling.{calls_here, called_by, proc_call}
use Rattle.proc_state.specs.Packets.{is_foreign, taken, proc_accept}
use Rattle.proc_state.specs.Passes.{txn_here, finished_by, applied_unless, proc_apply, apply_each}
use Rattle.proc_state.specs.Errors.{executed_by, executed_found, proc_execute}
use Rattle.proc_state.specs.Events.{ProcEvent, Call, Accept, Apply, Pass, Execute, after_event, after_events, reached}
use Rattle.proc_state.specs.Laws.{AreFinishedOnce, ComesBehind, FinishesEarlierFirst, EarlierComesFirst}

-- ---- what is journalled

-- a call adds its transaction, or nothing
pub call_journals : (calls : List ProcCall) (to : List SiteName) (x : ProcState) → Journals (as_site x) (as_site (proc_call calls to x))
call_journals calls to x = go (calls_here calls x)
  where
    go : (r : Result (List Rows) Failure) → Journals (as_site x) (as_site (called_by r calls to x))
    go (Ok tables) = one_entry (as_site x) _ (Local _ _) refl tt
    go (Err failure) = no_entry (as_site x) (as_site x) refl

-- a position adds its end where it is ready, or nothing
pub apply_journals : (origin : SiteName) (position : ℕ) (x : ProcState) → Journals (as_site x) (as_site (proc_apply origin position x))
apply_journals origin position x = go (finished origin x.journal position) refl (arrived_at origin position x.senders) refl
  where
    was_taken : (a : Arrival) → finished origin x.journal position ≡ false → arrived_at origin position x.senders ≡ Some a → is_due origin (as_site x) a ≡ true → IsTaken (as_site x) origin a.position a.txn
    was_taken a unfinished there due =
        rw (arrived_has origin position (as_site x) a there) (record { arrival = a; there = there; carries = refl; due = due; unfinished = unfinished })

    by : (a : Arrival) → IsTaken (as_site x) origin a.position a.txn → (r : Result (List Rows) Failure) → Journals (as_site x) (as_site (finished_by origin a r x))
    by a is (Ok tables) = one_entry (as_site x) _ (Done origin a.position 0 a.txn) refl is
    by a is (Err failure) = one_entry (as_site x) _ (Error origin a.position failure.call failure.error a.txn) refl is

    where_due : (a : Arrival) → finished origin x.journal position ≡ false → arrived_at origin position x.senders ≡ Some a → (d : Bool) → is_due origin (as_site x) a ≡ d
        → Journals (as_site x) (as_site (applied_unless (cond d None (Some why.NotReady)) origin (Some a) x))
    where_due a unfinished there true due = by a (was_taken a unfinished there due) (txn_here a.txn x)
    where_due a unfinished there false due = no_entry (as_site x) (as_site x) refl

    go : (f : Bool) → finished origin x.journal position ≡ f → (found : Option Arrival) → arrived_at origin position x.senders ≡ found
        → Journals (as_site x) (as_site (applied_unless (cond f (Some why.Finished) (stale_found origin (as_site x) found)) origin found x))
    go true is found there = no_entry (as_site x) (as_site x) refl
    go false is None there = no_entry (as_site x) (as_site x) refl
    go false is (Some a) there = where_due a is there (is_due origin (as_site x) a) refl

-- and no arrival
pub apply_senders : (origin : SiteName) (position : ℕ) (x : ProcState) → (proc_apply origin position x).senders ≡ x.senders
apply_senders origin position x = go (stale_of origin position (as_site x)) (arrived_at origin position x.senders)
  where
    by : (a : Arrival) (r : Result (List Rows) Failure) → (finished_by origin a r x).senders ≡ x.senders
    by a (Ok tables) = refl
    by a (Err failure) = refl

    go : (stale : Option Why) (found : Option Arrival) → (applied_unless stale origin found x).senders ≡ x.senders
    go (Some reason) found = refl
    go None None = refl
    go None (Some a) = by a (txn_here a.txn x)

stands : (origin : SiteName) (position : ℕ) (journal : List Entry) (e : ErrorEntry) → error_at origin position journal ≡ Some e → error_at e.origin e.position journal ≢ None
stands origin position journal e found = let is = error_found origin position journal e found in rw (is.0, is.1) (λ none. absurd (cc (none, found)))

-- an execution adds itself, or nothing
pub execute_journals : (origin : SiteName) (position : ℕ) (x : ProcState) → Journals (as_site x) (as_site (proc_execute origin position x))
execute_journals origin position x = go (error_at origin position x.journal) refl
  where
    by : (e : ErrorEntry) → error_at origin position x.journal ≡ Some e → (r : Result (List Rows) Failure) → Journals (as_site x) (as_site (executed_by e r x))
    by e is (Ok tables) = one_entry (as_site x) _ (Executed e.origin e.position 0 e.txn) refl (stands origin position x.journal e is)
    by e is (Err failure) = no_entry (as_site x) (as_site x) refl

    go : (found : Option ErrorEntry) → error_at origin position x.journal ≡ found → Journals (as_site x) (as_site (executed_found found x))
    go None is = no_entry (as_site x) (as_site x) refl
    go (Some e) is = by e is (txn_here e.txn x)

pub call_senders : (calls : List ProcCall) (to : List SiteName) (x : ProcState) → (proc_call calls to x).senders ≡ x.senders
call_senders calls to x = go (calls_here calls x)
  where
    go : (r : Result (List Rows) Failure) → (called_by r calls to x).senders ≡ x.senders
    go (Ok tables) = refl
    go (Err failure) = refl

pub execute_senders : (origin : SiteName) (position : ℕ) (x : ProcState) → (proc_execute origin position x).senders ≡ x.senders
execute_senders origin position x = go (error_at origin position x.journal)
  where
    by : (e : ErrorEntry) (r : Result (List Rows) Failure) → (executed_by e r x).senders ≡ x.senders
    by e (Ok tables) = refl
    by e (Err failure) = refl

    go : (found : Option ErrorEntry) → (executed_found found x).senders ≡ x.senders
    go None = refl
    go (Some e) = by e (txn_here e.txn x)

pub pass_senders : (origin : SiteName) (arrived : List Arrival) (x : ProcState) → (apply_each origin arrived x).senders ≡ x.senders
pass_senders origin [] x = refl
pass_senders origin (a ∷ arrived) x = pass_senders origin arrived (proc_apply origin a.position x) ∙ apply_senders origin a.position x

-- ---- finished once

none_counted : (test : Entry → Bool) (es : List Entry) → list_any test es ≡ false → count_where test es ≡ 0
none_counted test [] none = refl
none_counted test (e ∷ es) none = go (test e) (none_counted test es) none
  where
    go : (b : Bool) → (list_any test es ≡ false → count_where test es ≡ 0) → (b || list_any test es) ≡ false → cond b (count_where test es + 1) (count_where test es) ≡ 0
    go true later none = absurd (cc none)
    go false later none = later none

taken_once : (x : SiteState) (o : SiteName) (p : ℕ) (txn : Txn) → IsTaken x o p txn → IsFinishedOnce x.journal → (origin : SiteName) (position : ℕ)
    → cond (is_position origin position o p) (count_where (finishes origin position) x.journal + 1) (count_where (finishes origin position) x.journal) ≤ 1
taken_once x o p txn was once origin position = go (is_position origin position o p) refl
  where
    go : (b : Bool) → is_position origin position o p ≡ b → cond b (count_where (finishes origin position) x.journal + 1) (count_where (finishes origin position) x.journal) ≤ 1
    go true is =
        let same = is_position-true origin o position p is in
        let none : count_where (finishes origin position) x.journal ≡ 0 = none_counted (finishes origin position) x.journal (rw (← same.0, ← same.1) was.unfinished) in
        omega (arith, none)
    go false is = once origin position

once_more : (x : SiteState) (e : Option Entry) → IfSome e (MayFollow x) → IsFinishedOnce x.journal → IsFinishedOnce (with_entry e x.journal)
once_more x None follows once = once
once_more x (Some (Local number txn)) follows once = once
once_more x (Some (Done o p onward txn)) follows once = taken_once x o p txn follows once
once_more x (Some (Error o p call error txn)) follows once = taken_once x o p txn follows once
once_more x (Some (Executed o p onward txn)) follows once = once
once_more x (Some (Dropped o p)) follows once = once
once_more x (Some (Refreshed moment)) follows once = once

-- ---- in order

-- positions are finished once, have arrived, and have waited for what they depend on
pub record IsInOrder (x : ProcState) : Type 0 where
  pub once : IsFinishedOnce x.journal
  pub arrived : FinishedHaveArrived x.journal x.senders
  pub waited : HaveWaited x.senders x.journal

-- where one entry more may follow, positions stay finished once
pub journals_once : (x y : ProcState) → Journals (as_site x) (as_site y) → IsFinishedOnce x.journal → IsFinishedOnce y.journal
journals_once x y journals once = rw journals.journal (once_more (as_site x) journals.entry journals.follows once)

-- and in order
pub journals_in_order : (x y : ProcState) → y.senders ≡ x.senders → Journals (as_site x) (as_site y) → IsInOrder x → IsInOrder y
journals_in_order x y senders journals order = record {
  once = journals_once x y journals order.once;
  arrived = rw (journals.journal, senders) (finished_have_arrived (as_site x) journals.entry journals.follows order.arrived);
  waited = rw (journals.journal, senders) (have_waited (as_site x) journals.entry journals.follows order.waited);
}

pub apply_in_order : (origin : SiteName) (position : ℕ) (x : ProcState) → IsInOrder x → IsInOrder (proc_apply origin position x)
apply_in_order origin position x order = journals_in_order x (proc_apply origin position x) (apply_senders origin position x) (apply_journals origin position x) order

pub pass_in_order : (origin : SiteName) (arrived : List Arrival) (x : ProcState) → IsInOrder x → IsInOrder (apply_each origin arrived x)
pass_in_order origin [] x order = order
pass_in_order origin (a ∷ arrived) x order = pass_in_order origin arrived (proc_apply origin a.position x) (apply_in_order origin a.position x order)

-- positions stay finished once where one is applied
pub IsFinishedOnce-proc_apply : (origin : SiteName) (position : ℕ) (x : ProcState) → IsFinishedOnce x.journal → IsFinishedOnce (proc_apply origin position x).journal
IsFinishedOnce-proc_apply origin position x once = journals_once x (proc_apply origin position x) (apply_journals origin position x) once

-- where senders and marks change, and what was finished has arrived and waited all the same
changed_in_order : (x y : ProcState) → y.journal ≡ x.journal → FinishedHaveArrived x.journal y.senders → HaveWaited y.senders x.journal → IsInOrder x → IsInOrder y
changed_in_order x y journal arrived waited order = record { once = rw journal order.once; arrived = rw journal arrived; waited = rw journal waited }

pub accept_in_order : (packet : Packet) (x : ProcState) → IsInOrder x → IsInOrder (proc_accept packet x)
accept_in_order packet x order = go packet (is_foreign packet x)
  where
    put_arrived : (from : SiteName) (a : Arrival) (found : Option Arrival) → FinishedHaveArrived x.journal (arrived_by found from a (as_site x)).senders
    put_arrived from a None = λ origin p is. arrived_at-put origin from p a x.senders (order.arrived origin p is)
    put_arrived from a (Some before) = order.arrived

    put_waited : (from : SiteName) (a : Arrival) (found : Option Arrival) → arrived_at from a.position x.senders ≡ found → HaveWaited (arrived_by found from a (as_site x)).senders x.journal
    put_waited from a None new = HaveWaited-put from a x.senders x.journal order.arrived new order.waited
    put_waited from a (Some before) new = order.waited

    carried_in : (from to : SiteName) (number position dep : ℕ) (past : List PastEntry) (txn : Txn) → IsInOrder (taken (Carry from to number position dep past txn) x)
    carried_in from to number position dep past txn =
        let a : Arrival = record { position = position; number = number; dep = dep; past = past; txn = txn } in
        changed_in_order x (taken (Carry from to number position dep past txn) x) refl (put_arrived from a (arrived_at from position x.senders))
        (put_waited from a (arrived_at from position x.senders) refl) order

    go : (packet : Packet) (b : Bool) → IsInOrder (cond b x (taken packet x))
    go packet true = order
    go (Carry from to number position dep past txn) false = carried_in from to number position dep past txn
    go (Mark from to mark) false = changed_in_order x (taken (Mark from to mark) x) refl order.arrived order.waited order

-- ---- whatever happens

event_in_order : (e : ProcEvent) (x : ProcState) → IsInOrder x → IsInOrder (after_event e x)
event_in_order (Call calls to) x order = journals_in_order x (proc_call calls to x) (call_senders calls to x) (call_journals calls to x) order
event_in_order (Accept packet) x order = accept_in_order packet x order
event_in_order (Apply origin position) x order = apply_in_order origin position x order
event_in_order (Pass origin) x order = pass_in_order origin (arrivals origin (as_site x)) x order
event_in_order (Execute origin position) x order = journals_in_order x (proc_execute origin position x) (execute_senders origin position x) (execute_journals origin position x) order

events_in_order : (es : List ProcEvent) (x : ProcState) → IsInOrder x → IsInOrder (after_events es x)
events_in_order [] x order = order
events_in_order (e ∷ es) x order = event_in_order e (after_events es x) (events_in_order es x order)

new_in_order : (x : ProcState) → x.journal ≡ [] → IsInOrder x
new_in_order x none = record { once = rw none (λ origin position. omega arith); arrived = rw none (λ origin p is. absurd (cc is)); waited = rw none tt }

reached_in_order : (schema : Schema) (procedures : List Procedure) (me : SiteName) (masters : List SiteName) (events : List ProcEvent) → IsInOrder (reached schema procedures me masters events)
reached_in_order schema procedures me masters events = events_in_order events (new_proc schema procedures me masters) (new_in_order (new_proc schema procedures me masters) refl)

pub are_finished_once : AreFinishedOnce
are_finished_once schema procedures me masters events = (reached_in_order schema procedures me masters events).once

each_weaker : (P Q : Entry → List Entry → Type 0) → ((e : Entry) (before : List Entry) → P e before → Q e before) → (journal : List Entry) → EachBehind P journal → EachBehind Q journal
each_weaker P Q weaker [] each = tt
each_weaker P Q weaker (e ∷ es) each = (weaker e es each.0, each_weaker P Q weaker es each.1)

-- where each position has waited, the earlier of two that share a token comes first
pub earlier_first : (x : ProcState) → HaveWaited x.senders x.journal → FinishesEarlierFirst x
earlier_first x waited origin numbered = each_weaker (HasWaited x.senders) (ComesBehind x origin) behind x.journal waited
  where
    behind : (e : Entry) (before : List Entry) → HasWaited x.senders e before → ComesBehind x origin e before
    behind e before has p q a b here there_p there_q from_one less shared = has origin p q b here there_q from_one less (numbered p q a b there_p there_q less shared)

pub earlier_comes_first : EarlierComesFirst
earlier_comes_first schema procedures me masters events =
    earlier_first (reached schema procedures me masters events) (reached_in_order schema procedures me masters events).waited
