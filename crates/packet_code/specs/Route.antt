-- A transaction on its route, and in its stream.
use Rattle.std.specs.Prelude.{List, Option, Some, None}
use Rattle.rep_calls.specs.declared.call.Txn.{Txn}
use Rattle.rep_calls.specs.declared.past.PastEntry.{PastEntry}
use Rattle.packet_code.specs.declared.packet.Packet.{Packet}
use Rattle.packet_code.specs.declared.packet.Packet.TheVariants.{Carry, Mark}
use Rattle.packet_code.specs.declared.route.Route.{Route}
use Rattle.packet_code.specs.declared.stream_position.StreamPosition.{StreamPosition}

-- the packet that carries a transaction
abbrev pub carried : Route → List PastEntry → Txn → Packet
carried route past txn = Carry route.from route.to route.number route.position route.dep past txn

-- who sent the transaction of a packet, and its position in the stream; none for a mark
abbrev pub stream_position : Packet → Option StreamPosition
stream_position (Carry from to number position dep past txn) = Some (record { from = from; position = position })
stream_position (Mark from to mark) = None
