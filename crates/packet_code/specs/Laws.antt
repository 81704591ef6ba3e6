-- What holds of the bytes of any two packets.
use Rattle.std.specs.Prelude.{◌≡◌, ℕ, List, [], ◌++◌}
use Rattle.packet_code.specs.declared.packet.Packet.{Packet}
use Rattle.packet_code.specs.Spelling.{IsAccepted}

-- accepted bytes that begin with accepted ones are of the same packet, and no bytes are left over
abbrev pub NoEncodingBeginsAnother : Type 0
NoEncodingBeginsAnother = (packet other : Packet) (bytes more : List ℕ) → IsAccepted (bytes ++ more) packet → IsAccepted bytes other
    → (packet ≡ other) × (more ≡ [])
