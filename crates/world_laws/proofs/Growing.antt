-- Whatever happens at a site of procedures, its streams go on, and its low-water marks don't fall.
use Rattle.std.proofs.Common.{◌≡◌, ℕ, ◌+◌, ◌≤◌, ◌==◌, List, [], ◌∷◌, length, Bool, true, false, cond, Some, None, Ok, Err, refl, ◌∙◌, arith}
use Rattle.std.specs.Prelude.{Option, Result}
use Rattle.std.proofs.lemmas.Bool.Decides.{nat_tests}
use Rattle.rep_values.specs.declared.name.SiteName.{SiteName}
use Rattle.rep_schema.specs.Tables.{Rows}
use Rattle.txn_effects.specs.Transactions.{Failure}
use Rattle.deferred_queue.specs.declared.queued_txn.QueuedTxn.{QueuedTxn}
use Rattle.deferred_queue.specs.declared.destination.Destination.{Destination}
use Rattle.deferred_queue.specs.Streams.{Deferred, InStream, with_one, destination_to, queue_stream_to, at_position}
use Rattle.deferred_queue.proofs.Positions.{found_position}
use Rattle.packet_code.specs.declared.packet.Packet.{Packet}
use Rattle.error_queue.specs.declared.entry.ErrorEntry.{ErrorEntry}
use Rattle.site_state.specs.declared.entry.Entry.{Entry}
use Rattle.site_state.specs.declared.entry.Entry.TheVariants.{Local, Done, Error, Executed}
use Rattle.site_state.specs.declared.answers.Why.{Why}
use Rattle.site_state.specs.declared.arrival.Arrival.{Arrival}
use Rattle.site_state.specs.State.{arrived_at, arrivals}
use Rattle.site_state.specs.Journal.{low_water, error_at}
use Rattle.site_state.specs.Ready.{stale_of}
use Rattle.site_state.proofs.LowWater.{low_water-append}
use Rattle.proc_state.specs.declared.call.ProcCall.{ProcCall}
use Rattle.proc_state.specs.State.{ProcState, as_site, proc_queue, own_txn}
use Rattle.proc_state.specs.Calling.{calls_here, called_by, proc_call}
use Rattle.proc_state.specs.Packets.{carry_found, proc_packet, is_foreign, taken, proc_accept}
use Rattle.proc_state.specs.Passes.{txn_here, finished_by, applied_unless, proc_apply, apply_each}
use Rattle.proc_state.specs.Errors.{executed_by, executed_found, proc_execute}
use Rattle.proc_state.specs.Events.{ProcEvent, Call, Accept, Apply, Pass, Execute, after_event, after_events}

-- each packet that a site had it has still, its name is the same, and no low-water mark fell
pub record Grows (x y : ProcState) : Type 0 where
  pub me : y.me ≡ x.me
  pub packets : (to : SiteName) (position : ℕ) (packet : Packet) → proc_packet to position x ≡ Some packet → proc_packet to position y ≡ Some packet
  pub low : (origin : SiteName) → low_water origin x.journal ≤ low_water origin y.journal

pub grows_same : (x : ProcState) → Grows x x
grows_same x = record { me = refl; packets = λ to position packet is. is; low = λ origin. omega arith }

pub grows_then : (x y z : ProcState) → Grows x y → Grows y z → Grows x z
grows_then x y z first second = record {
  me = second.me ∙ first.me;
  packets = λ to position packet is. second.packets to position packet (first.packets to position packet is);
  low = λ origin. omega (arith, first.low origin, second.low origin);
}

-- ---- one entry more

-- a site with the same queue and one entry more
entry_more : (e : Entry) (x y : ProcState) → y.me ≡ x.me → y.journal ≡ e ∷ x.journal → ((to : SiteName) (position : ℕ) (packet : Packet) → proc_packet to position x ≡ Some packet → proc_packet to position y ≡ Some packet) → Grows x y
entry_more e x y me journal packets = record { me = me; packets = packets; low = λ origin. rw journal (low_water-append origin (e ∷ []) x.journal) }

-- one that isn't the site's own
other_more : (e : Entry) (x : ProcState) → own_txn e ≡ None → Grows x (record x { journal = e ∷ x.journal })
other_more e x other = entry_more e x (record x { journal = e ∷ x.journal }) refl refl (λ to position packet is. rw other is)

-- what stands at a position of a stream stands there when the stream goes on
stands_with : (d : Option Destination) (number position : ℕ) (cargo : Option QueuedTxn) (ss : List InStream) (s : InStream) → at_position position ss ≡ Some s → at_position position (with_one d number cargo ss) ≡ Some s
stands_with None number position cargo ss s there = there
stands_with (Some d) number position cargo ss s there =
    let within = (found_position position ss s there).1 in
    let off : (position == length ss + 1) ≡ false = grind (arith, nat_tests, within) in
    rw off there

-- a packet is there still when the queue has one transaction more
packet_with : (to me : SiteName) (position : ℕ) (d : Deferred) (queue : List Deferred) (packet : Packet) → carry_found me to position (at_position position (queue_stream_to to queue)) ≡ Some packet
    → carry_found me to position (at_position position (queue_stream_to to (d ∷ queue))) ≡ Some packet
packet_with to me position d queue packet is = go (at_position position (queue_stream_to to queue)) refl is
  where
    go : (o : Option InStream) → at_position position (queue_stream_to to queue) ≡ o → carry_found me to position o ≡ Some packet → carry_found me to position (at_position position (queue_stream_to to (d ∷ queue))) ≡ Some packet
    go None there is = absurd (cc is)
    go (Some s) there is = rw (stands_with (destination_to to d.to) (length queue + 1) position d.cargo (queue_stream_to to queue) s there) is

-- ---- each event

pub call_grows : (calls : List ProcCall) (to : List SiteName) (x : ProcState) → Grows x (proc_call calls to x)
call_grows calls to x = go (calls_here calls x)
  where
    go : (r : Result (List Rows) Failure) → Grows x (called_by r calls to x)
    go (Ok tables) = entry_more (Local _ _) x (called_by (Ok tables) calls to x) refl refl (λ site position packet is. packet_with site x.me position _ (proc_queue x) packet is)
    go (Err failure) = grows_same x

pub accept_grows : (packet : Packet) (x : ProcState) → Grows x (proc_accept packet x)
accept_grows packet x = go (is_foreign packet x)
  where
    go : (b : Bool) → Grows x (cond b x (taken packet x))
    go true = grows_same x
    go false = record { me = refl; packets = λ to position packet is. is; low = λ origin. omega arith }

pub apply_grows : (origin : SiteName) (position : ℕ) (x : ProcState) → Grows x (proc_apply origin position x)
apply_grows origin position x = go (stale_of origin position (as_site x)) (arrived_at origin position x.senders)
  where
    by : (a : Arrival) (r : Result (List Rows) Failure) → Grows x (finished_by origin a r x)
    by a (Ok tables) = other_more (Done origin a.position 0 a.txn) x refl
    by a (Err failure) = other_more (Error origin a.position failure.call failure.error a.txn) x refl

    go : (stale : Option Why) (found : Option Arrival) → Grows x (applied_unless stale origin found x)
    go (Some reason) found = grows_same x
    go None None = grows_same x
    go None (Some a) = by a (txn_here a.txn x)

each_grows : (origin : SiteName) (arrived : List Arrival) (x : ProcState) → Grows x (apply_each origin arrived x)
each_grows origin [] x = grows_same x
each_grows origin (a ∷ arrived) x = grows_then x (proc_apply origin a.position x) (apply_each origin arrived (proc_apply origin a.position x))
    (apply_grows origin a.position x) (each_grows origin arrived (proc_apply origin a.position x))

pub execute_grows : (origin : SiteName) (position : ℕ) (x : ProcState) → Grows x (proc_execute origin position x)
execute_grows origin position x = go (error_at origin position x.journal)
  where
    by : (e : ErrorEntry) (r : Result (List Rows) Failure) → Grows x (executed_by e r x)
    by e (Ok tables) = other_more (Executed e.origin e.position 0 e.txn) x refl
    by e (Err failure) = grows_same x

    go : (found : Option ErrorEntry) → Grows x (executed_found found x)
    go None = grows_same x
    go (Some e) = by e (txn_here e.txn x)

event_grows : (e : ProcEvent) (x : ProcState) → Grows x (after_event e x)
event_grows (Call calls to) x = call_grows calls to x
event_grows (Accept packet) x = accept_grows packet x
event_grows (Apply origin position) x = apply_grows origin position x
event_grows (Pass origin) x = each_grows origin (arrivals origin (as_site x)) x
event_grows (Execute origin position) x = execute_grows origin position x

-- a site grows whatever happens
pub events_grow : (es : List ProcEvent) (x : ProcState) → Grows x (after_events es x)
events_grow [] x = grows_same x
events_grow (e ∷ es) x = grows_then x (after_events es x) (after_event e (after_events es x)) (events_grow es x) (event_grows e (after_events es x))
