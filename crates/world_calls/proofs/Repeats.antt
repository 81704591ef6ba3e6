-- A packet that comes again changes nothing at a site of procedures.
use Rattle.std.proofs.Common.{◌≡◌, Bool, true, false, cond, Some, None, refl}
use Rattle.std.specs.Prelude.{Option, is_some}
use Rattle.packet_code.specs.declared.packet.Packet.{Packet}
use Rattle.packet_code.specs.declared.packet.Packet.TheVariants.{Carry, Mark}
use Rattle.site_state.specs.declared.arrival.Arrival.{Arrival}
use Rattle.site_state.specs.State.{arrived_at}
use Rattle.site_state.specs.Packets.{arrived_by}
use Rattle.proc_state.specs.State.{ProcState, as_site}
use Rattle.proc_state.specs.Packets.{is_foreign, taken, proc_accept}
use Rattle.world_calls.specs.Repeats.{is_repeated}

-- a site stays as it takes in a repeat
pub repeated_keeps : (packet : Packet) (x : ProcState) → is_repeated packet x ≡ true → proc_accept packet x ≡ x
repeated_keeps (Carry from to number position dep past txn) x repeat =
    unless (is_foreign (Carry from to number position dep past txn) x)
    (arrived (arrived_at from position x.senders) (record { position = position; number = number; dep = dep; past = past; txn = txn }) repeat)
  where
    arrived : (before : Option Arrival) (a : Arrival) → is_some before ≡ true → record x { senders = (arrived_by before from a (as_site x)).senders } ≡ x
    arrived None a some = cc
    arrived (Some before) a some = refl

    unless : (foreign : Bool) → taken (Carry from to number position dep past txn) x ≡ x → cond foreign x (taken (Carry from to number position dep past txn) x) ≡ x
    unless true same = refl
    unless false same = same
repeated_keeps (Mark from to mark) x repeat = cc
