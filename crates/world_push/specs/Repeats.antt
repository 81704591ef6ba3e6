-- Packets that come again.
use Rattle.std.specs.Prelude.{Bool, false, is_some}
use Rattle.packet_code.specs.declared.packet.Packet.{Packet}
use Rattle.packet_code.specs.declared.packet.Packet.TheVariants.{Carry, Mark}
use Rattle.site_state.specs.State.{SiteState, arrived_at}

-- the transaction of a packet arrived at a site before
abbrev pub is_repeat : Packet → SiteState → Bool
is_repeat (Carry from to number position dep past txn) x = is_some (arrived_at from position x.senders)
is_repeat (Mark from to mark) x = false
