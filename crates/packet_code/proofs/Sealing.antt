-- Bytes that are a packet's encoding are that packet, sealed.
use Rattle.std.proofs.Common.{◌≡◌, ℕ, List, Some, inl, refl}
use Rattle.packet_code.specs.declared.packet.Packet.{Packet}
use Rattle.packet_code.specs.Spelling.{IsEncoding}
use Rattle.packet_code.specs.Forms.{packet_in}
use Rattle.packet_code.specs.Sealing.{sealed_packet}
use Rattle.packet_code.proofs.Decoded.{packet_in-accepted}

-- the packet of sealed bytes is the one that is read
pub sealed_packet-read : (bytes : List ℕ) (x : Packet) → packet_in bytes ≡ Some x → sealed_packet bytes ≡ x
sealed_packet-read bytes x read = rw read refl

-- the packet of an encoding is the one that was encoded
pub sealed_packet-IsEncoding : (bytes : List ℕ) (x : Packet) → IsEncoding bytes x → sealed_packet bytes ≡ x
sealed_packet-IsEncoding bytes x is = sealed_packet-read bytes x (packet_in-accepted bytes x (inl is))

-- so the bytes are the encoding of what is sealed
pub sealed-IsEncoding : (bytes : List ℕ) (x : Packet) → IsEncoding bytes x → IsEncoding bytes (sealed_packet bytes)
sealed-IsEncoding bytes x is = rw (sealed_packet-IsEncoding bytes x is) is
