-- A push of calls, piece by piece.
use Rattle.std.specs.Prelude.{ℕ, ◌+◌, ◌-◌, Bool, cond, List, [], ◌∷◌, length, flat_map, Option, Some, None}
use Rattle.std.specs.List.{range_with_len}
use Rattle.rep_values.specs.declared.name.SiteName.{SiteName}
use Rattle.deferred_queue.specs.Streams.{last_position, acked_by}
use Rattle.packet_code.specs.declared.packet.Packet.{Packet}
use Rattle.error_queue.specs.declared.entry.ErrorEntry.{ErrorEntry}
use Rattle.net_plan.specs.Directions.{at_direction, first_between, on_way_between, released, delivered}
use Rattle.site_state.specs.Journal.{low_water}
use Rattle.site_state.specs.Passes.{is_done, is_error, added_count}
use Rattle.site_state.specs.Errors.{errors_from}
use Rattle.proc_state.specs.State.{ProcState, as_site, proc_queue}
use Rattle.proc_state.specs.Packets.{proc_packet, proc_mark, proc_accept}
use Rattle.proc_state.specs.Passes.{proc_pass}
use Rattle.report_text.specs.declared.printed.PushCount.{PushCount}
use Rattle.world_state.specs.Procs.{Procs, proc_of, at_proc}
use Rattle.world_state.specs.Pushes.{sent_on, emptied}
use Rattle.world_state.specs.PushAnswers.{entries_since}
use Rattle.site_state.specs.Rounds.{sender_names}

-- ---- what is sent

-- what is held from a site to another one goes on the way
abbrev pub calls_release : SiteName → SiteName → Procs → Procs
calls_release from to p = record p { net = at_direction from to released p.net }

abbrev pub calls_from : SiteName → ℕ → Option ProcState → Option Packet
calls_from to position None = None
calls_from to position (Some x) = proc_packet to position x

-- the packet of a position is sent, where there is one
abbrev pub calls_send : SiteName → SiteName → ℕ → Procs → Procs
calls_send from to position p = record p { net = sent_on (calls_from to position (proc_of from p.sites)) from to p.net }

-- those of some positions are, in their order
abbrev pub calls_send_each : SiteName → SiteName → List ℕ → Procs → Procs
calls_send_each from to [] p = p
calls_send_each from to (position ∷ more) p = calls_send_each from to more (calls_send from to position p)

abbrev pub positions_of : SiteName → Option ProcState → List ℕ
positions_of to None = []
positions_of to (Some x) = range_with_len (acked_by to x.acked + 1) (last_position to (proc_queue x) - acked_by to x.acked)

-- the positions above the acknowledged mark
abbrev pub calls_positions : SiteName → SiteName → Procs → List ℕ
calls_positions from to p = positions_of to (proc_of from p.sites)

-- what isn't acknowledged is sent
abbrev pub calls_send_above : SiteName → SiteName → Procs → Procs
calls_send_above from to p = calls_send_each from to (calls_positions from to p) p

-- ---- what is taken in

abbrev pub calls_taken_each : SiteName → List Packet → List ProcState → List ProcState
calls_taken_each to [] sites = sites
calls_taken_each to (packet ∷ more) sites = calls_taken_each to more (at_proc to (proc_accept packet) sites)

-- a site takes in all that is on the way to it from another one
abbrev pub calls_deliver : SiteName → SiteName → Procs → Procs
calls_deliver from to p = record p { sites = calls_taken_each to (on_way_between from to p.net) p.sites; net = at_direction from to emptied p.net }

abbrev pub calls_taken_one : SiteName → Option Packet → List ProcState → List ProcState
calls_taken_one to None sites = sites
calls_taken_one to (Some packet) sites = at_proc to (proc_accept packet) sites

-- it takes in the first packet on the way, if there is one
abbrev pub calls_deliver_one : SiteName → SiteName → Procs → Procs
calls_deliver_one from to p = record p { sites = calls_taken_one to (first_between from to p.net) p.sites; net = at_direction from to delivered p.net }

-- ---- what becomes of it

-- a pass for each of some senders, one after the other
abbrev pub proc_passes : List SiteName → ProcState → ProcState
proc_passes [] x = x
proc_passes (origin ∷ origins) x = proc_passes origins (proc_pass origin x)

-- a pass for the sender that pushed, and then one for each sender
abbrev pub proc_until_quiet : SiteName → ProcState → ProcState
proc_until_quiet origin x = proc_passes (origin ∷ sender_names x.senders) x

-- the receiver applies what came until all is quiet
abbrev pub calls_until_quiet : SiteName → SiteName → Procs → Procs
calls_until_quiet from to p = record p { sites = at_proc to (proc_until_quiet from) p.sites }

abbrev pub calls_mark_from : SiteName → Option ProcState → Option Packet
calls_mark_from to None = None
calls_mark_from to (Some x) = Some (proc_mark to x)

-- the mark for what came from a site is sent to it
abbrev pub calls_send_mark : SiteName → SiteName → Procs → Procs
calls_send_mark from to p = record p { net = sent_on (calls_mark_from to (proc_of from p.sites)) from to p.net }

-- what is held goes before it, and all is taken in
abbrev pub calls_deliver_mark : SiteName → SiteName → Procs → Procs
calls_deliver_mark from to p = calls_deliver from to (calls_send_mark from to (calls_release from to p))

-- where the link is down the mark is lost, and takes no fate
abbrev pub calls_return_mark : Bool → SiteName → SiteName → Procs → Procs
calls_return_mark up from to p = cond up (calls_deliver_mark from to p) p

-- ---- the whole

-- all has come to the receiver
abbrev pub calls_pushed_in : SiteName → SiteName → Procs → Procs
calls_pushed_in from to p = calls_deliver from to (calls_send_above from to (calls_release from to p))

-- what is held is released and what isn't acknowledged is sent; the receiver takes all in and applies it; and its mark goes
-- back, where the link back is up
abbrev pub calls_push : Bool → SiteName → SiteName → Procs → Procs
calls_push up_back from to p = calls_return_mark up_back to from (calls_until_quiet from to (calls_pushed_in from to p))

-- ---- what it tells

abbrev pub calls_count_in : ℕ → SiteName → Option ProcState → PushCount
calls_count_in sent from None = record { sent = sent; done = 0; errors = 0; low = 0 }
calls_count_in sent from (Some x) = record {
  sent = sent;
  done = added_count is_done (as_site x) (as_site (proc_until_quiet from x));
  errors = added_count is_error (as_site x) (as_site (proc_until_quiet from x));
  low = low_water from (proc_until_quiet from x).journal;
}

-- the counts of a push of calls
abbrev pub calls_push_count : SiteName → SiteName → Procs → PushCount
calls_push_count from to p = calls_count_in (length (calls_positions from to p)) from (proc_of to (calls_pushed_in from to p).sites)

abbrev pub calls_errors_in : SiteName → Option ProcState → List ErrorEntry
calls_errors_in from None = []
calls_errors_in from (Some x) = flat_map (errors_from (entries_since x.journal (proc_until_quiet from x).journal)) (proc_until_quiet from x).senders

-- the errors that it brought, by sender as declared, then by position
abbrev pub calls_push_errors : SiteName → SiteName → Procs → List ErrorEntry
calls_push_errors from to p = calls_errors_in from (proc_of to (calls_pushed_in from to p).sites)
