-- The bytes of a packet, in version 2, which is written, and in version 1, which is read too. Numbers stand with their highest
-- byte first.
use Rattle.std.specs.Prelude.{◌≡◌, ℕ, ◌⊎◌, List, [], ◌∷◌, ◌++◌, length, flat_map, Option, Some, None}
use Rattle.std.specs.Int.{w16, w32, w64, to_be_bytes, cast_unsigned}
use Rattle.rep_values.specs.declared.value.Value.{Value}
use Rattle.rep_values.specs.declared.value.Value.TheVariants.{Num, Words}
use Rattle.rep_values.specs.declared.name.SiteName.{SiteName}
use Rattle.rep_schema.specs.Tables.{Cells}
use Rattle.rep_calls.specs.declared.call.Call.{Call}
use Rattle.rep_calls.specs.declared.call.Call.TheVariants.{Insert, Update, Delete}
use Rattle.rep_calls.specs.declared.call.Part.{Part}
use Rattle.rep_calls.specs.declared.call.Txn.{Txn}
use Rattle.rep_calls.specs.declared.past.PastEntry.{PastEntry}
use Rattle.packet_code.specs.declared.packet.Packet.{Packet}
use Rattle.packet_code.specs.declared.packet.Packet.TheVariants.{Carry, Mark}
use Rattle.packet_code.specs.Limits.{IsPacket}

-- the length, and then the bytes of the name
abbrev pub name_bytes : SiteName → List ℕ
name_bytes site = length site.0 ∷ site.0

-- 1 and a number in two's complement; or 2, the length of a text, and its bytes
abbrev pub value_bytes : Value → List ℕ
value_bytes (Num n) = 1 ∷ to_be_bytes w64 (cast_unsigned w64 n)
value_bytes (Words text) = 2 ∷ length text ∷ text

-- how many values, and then each
abbrev pub values_bytes : Cells → List ℕ
values_bytes values = length values ∷ flat_map value_bytes values

-- the group, how many old values, each of them, and then the new ones
abbrev pub part_bytes : Part → List ℕ
part_bytes part = part.group ∷ values_bytes part.old ++ flat_map value_bytes part.new

-- how many parts, and then each
abbrev pub parts_bytes : List Part → List ℕ
parts_bytes parts = length parts ∷ flat_map part_bytes parts

-- 1, 2 or 3 for an insert, an update or a delete, the table, and then the row or the key and parts
abbrev pub call_bytes : Call → List ℕ
call_bytes (Insert table row) = 1 ∷ to_be_bytes w16 table ++ values_bytes row
call_bytes (Update table key parts) = 2 ∷ to_be_bytes w16 table ++ values_bytes key ++ parts_bytes parts
call_bytes (Delete table row) = 3 ∷ to_be_bytes w16 table ++ values_bytes row

-- how many calls, and then each
abbrev pub txn_bytes : Txn → List ℕ
txn_bytes txn = to_be_bytes w32 (length txn.calls) ++ flat_map call_bytes txn.calls

-- a master, and how far it was seen
abbrev pub past_entry_bytes : PastEntry → List ℕ
past_entry_bytes seen = name_bytes seen.origin ++ to_be_bytes w64 seen.number

-- how many masters, and then each
abbrev pub past_bytes : List PastEntry → List ℕ
past_bytes past = length past ∷ flat_map past_entry_bytes past

-- the version, 1 for a transaction or 2 for a mark, both sites, and then what is sent
abbrev pub packet_bytes : Packet → List ℕ
packet_bytes (Carry from to number position dep past txn) = 2 ∷ 1 ∷ name_bytes from ++ name_bytes to
    ++ to_be_bytes w64 number ++ to_be_bytes w64 position ++ to_be_bytes w64 dep ++ past_bytes past ++ txn_bytes txn
packet_bytes (Mark from to mark) = 2 ∷ 2 ∷ name_bytes from ++ name_bytes to ++ to_be_bytes w64 mark

-- the same in version 1, which doesn't tell the past
abbrev pub older_packet_bytes : Packet → List ℕ
older_packet_bytes (Carry from to number position dep past txn) = 1 ∷ 1 ∷ name_bytes from ++ name_bytes to
    ++ to_be_bytes w64 number ++ to_be_bytes w64 position ++ to_be_bytes w64 dep ++ txn_bytes txn
older_packet_bytes (Mark from to mark) = 1 ∷ 2 ∷ name_bytes from ++ name_bytes to ++ to_be_bytes w64 mark

-- a transaction with an empty past, or a mark
abbrev pub HasNoPast : Packet → Type 0
HasNoPast (Carry from to number position dep past txn) = past ≡ []
HasNoPast (Mark from to mark) = Unit {0}

-- bytes are the encoding of a packet: those that are written
pub record IsEncoding (bytes : List ℕ) (packet : Packet) : Type 0 where
  pub plain : IsPacket packet
  pub bytes_are : packet_bytes packet ≡ bytes

-- bytes are the encoding that a packet with no past has in version 1
pub record IsOlderEncoding (bytes : List ℕ) (packet : Packet) : Type 0 where
  pub plain : IsPacket packet
  pub no_past : HasNoPast packet
  pub bytes_are : older_packet_bytes packet ≡ bytes

-- bytes that are accepted as a packet: its encoding in either version
abbrev pub IsAccepted : List ℕ → Packet → Type 0
IsAccepted bytes packet = IsEncoding bytes packet ⊎ IsOlderEncoding bytes packet

-- what bytes are decoded to: the packet that they are accepted as; nothing where they are accepted as none
abbrev pub IsDecoded : List ℕ → Option Packet → Type 0
IsDecoded bytes None = (packet : Packet) → ¬ IsAccepted bytes packet
IsDecoded bytes (Some packet) = IsAccepted bytes packet
