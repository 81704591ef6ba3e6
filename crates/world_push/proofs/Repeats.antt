-- A packet that comes again changes nothing.
use Rattle.std.proofs.Common.{◌≡◌, Bool, true, false, Some, None, refl}
use Rattle.std.specs.Prelude.{Option, is_some}
use Rattle.packet_code.specs.declared.packet.Packet.{Packet}
use Rattle.packet_code.specs.declared.packet.Packet.TheVariants.{Carry, Mark}
use Rattle.site_state.specs.declared.arrival.Arrival.{Arrival}
use Rattle.site_state.specs.State.{SiteState, arrived_at}
use Rattle.site_state.specs.Packets.{is_foreign, arrived_by, taken_in, taken_unless, site_accept}
use Rattle.world_push.specs.Repeats.{is_repeat}

-- a site stays as it takes in a repeat
pub repeat_keeps : (packet : Packet) (x : SiteState) → is_repeat packet x ≡ true → site_accept packet x ≡ x
repeat_keeps (Carry from to number position dep past txn) x repeat =
    unless (is_foreign (Carry from to number position dep past txn) x)
    (arrived (arrived_at from position x.senders) (record { position = position; number = number; dep = dep; past = past; txn = txn }) repeat)
  where
    arrived : (before : Option Arrival) (a : Arrival) → is_some before ≡ true → arrived_by before from a x ≡ x
    arrived None a some = cc
    arrived (Some before) a some = refl

    unless : (foreign : Bool) → taken_in (Carry from to number position dep past txn) x ≡ x → taken_unless foreign (Carry from to number position dep past txn) x ≡ x
    unless true same = refl
    unless false same = same
repeat_keeps (Mark from to mark) x repeat = cc
