-- The head of a packet, read without what stands behind it.
use Rattle.std.specs.Prelude.{ℕ, ◌==◌, List, Option, Some, None}
use Rattle.rep_values.specs.declared.name.SiteName.{SiteName}
use Rattle.packet_code.specs.declared.stream_position.StreamPosition.{StreamPosition}
use Rattle.packet_code.specs.Reading.{Reading, ◌>>=◌, given, byte, sized, made, ◌▸◌, behind, either, u64_number}
use Rattle.packet_code.specs.Forms.{site}

-- the sender and the position, of both sites, the number and the position
abbrev pub head_position : SiteName × (List ℕ × (ℕ × ℕ)) → Option StreamPosition
head_position p = Some (record { from = p.0; position = p.1.1.1 })

-- who sent a transaction, and its position
abbrev pub carry_position : Reading (Option StreamPosition)
carry_position = made head_position (site ▸ λ from. sized ▸ λ to. u64_number ▸ λ number. u64_number)

-- what stands behind the byte that tells the kind of a packet
abbrev pub position_of_kind : ℕ → Reading (Option StreamPosition)
position_of_kind kind = either (kind == 1) carry_position (given None)

-- the version, and then what is sent
abbrev pub position_in_front : Reading (Option StreamPosition)
position_in_front = behind byte (λ version. behind byte position_of_kind)

-- the position in its stream of the transaction in front, and no more of the bytes
abbrev pub position_in : List ℕ → Option (Option StreamPosition)
position_in bytes = position_in_front bytes >>= λ read. Some read.0
