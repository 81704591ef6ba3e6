-- The packet that is kept as its bytes.
use Rattle.std.specs.Prelude.{ℕ, List, [], Option, Some, None}
use Rattle.packet_code.specs.declared.packet.Packet.{Packet}
use Rattle.packet_code.specs.declared.packet.Packet.TheVariants.{Mark}
use Rattle.packet_code.specs.Forms.{packet_in}

-- a mark without names, which no bytes are
abbrev nameless : Packet
nameless = Mark (record { 0 = [] }) (record { 0 = [] }) 0

-- the packet that was read, where one was
abbrev packet_or_nameless : Option Packet → Packet
packet_or_nameless None = nameless
packet_or_nameless (Some packet) = packet

-- the packet of sealed bytes
abbrev pub sealed_packet : List ℕ → Packet
sealed_packet bytes = packet_or_nameless (packet_in bytes)
