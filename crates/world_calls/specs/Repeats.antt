-- Packets that come again.
use Rattle.std.specs.Prelude.{Bool, false, is_some}
use Rattle.packet_code.specs.declared.packet.Packet.{Packet}
use Rattle.packet_code.specs.declared.packet.Packet.TheVariants.{Carry, Mark}
use Rattle.site_state.specs.State.{arrived_at}
use Rattle.proc_state.specs.State.{ProcState}

-- the transaction of a packet arrived at a site of procedures before
abbrev pub is_repeated : Packet → ProcState → Bool
is_repeated (Carry from to number position dep past txn) x = is_some (arrived_at from position x.senders)
is_repeated (Mark from to mark) x = false
