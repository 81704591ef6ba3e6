-- The parts of a packet, each as it is read from the front of bytes.
use Rattle.std.specs.Prelude.{ℕ, ◌==◌, ◌&&◌, not, Bool, true, nat_le, nat_lt, List, [], ◌∷◌, length, map, Option}
use Rattle.std.specs.Int.{w64, cast_signed}
use Rattle.std.specs.List.{list_all}
use Rattle.std.specs.Ordering.{is_lt}
use Rattle.rep_values.specs.declared.value.Value.{Value}
use Rattle.rep_values.specs.declared.value.Value.TheVariants.{Num, Words}
use Rattle.rep_values.specs.declared.name.SiteName.{SiteName}
use Rattle.rep_values.specs.Name.{is_name, same_bytes}
use Rattle.rep_values.specs.Order.{name_cmp}
use Rattle.rep_values.specs.Text.{is_text}
use Rattle.rep_schema.specs.Tables.{Cells}
use Rattle.rep_schema.specs.Groups.{are_same}
use Rattle.rep_schema.specs.Fitting.{is_in_range}
use Rattle.rep_calls.specs.declared.call.Call.{Call}
use Rattle.rep_calls.specs.declared.call.Call.TheVariants.{Insert, Update, Delete}
use Rattle.rep_calls.specs.declared.call.Part.{Part}
use Rattle.rep_calls.specs.declared.call.Txn.{Txn}
use Rattle.rep_calls.specs.declared.past.PastEntry.{PastEntry}
use Rattle.packet_code.specs.declared.packet.Packet.{Packet}
use Rattle.packet_code.specs.declared.packet.Packet.TheVariants.{Carry, Mark}
use Rattle.packet_code.specs.declared.version.Version.{Version}
use Rattle.packet_code.specs.declared.version.Version.TheVariants.{First, Second}
use Rattle.packet_code.specs.Limits.{is_group_number}
use Rattle.packet_code.specs.Reading.{Reading, ◌>>=◌, nothing, given, byte, sized, made, tested, ◌▸◌, behind, either, times, limited, up_to, u64_number, u32_number, u16_number, whole}

-- the site's name that bytes are
abbrev pub site_of : List ℕ → SiteName
site_of name = record { 0 = name }

-- the name of a site
abbrev pub site : Reading SiteName
site = made site_of (tested is_name sized)

-- a number in two's complement and in range
abbrev pub number_value : Reading Value
number_value = made Num (tested is_in_range (made (cast_signed w64) u64_number))

-- a text
abbrev pub text_value : Reading Value
text_value = made Words (tested is_text sized)

-- what stands behind the byte that tells the kind of a value
abbrev pub value_of_kind : ℕ → Reading Value
value_of_kind kind = either (kind == 1) number_value (either (kind == 2) text_value nothing)

-- a number or a text, by its kind
unfoldable pub value : Reading Value
value = behind byte value_of_kind

-- a count, and so many values, at most this many
abbrev pub values : ℕ → Reading Cells
values most = behind byte (limited most value)

-- the values of a row
unfoldable pub row : Reading Cells
row = values 32

-- the values of a key
unfoldable pub key : Reading Cells
key = values 4

-- the group is one, and the new values are others
abbrev pub is_part : ℕ × (Cells × Cells) → Bool
is_part p = is_group_number p.0 && not (are_same p.1.0 p.1.1)

-- the part of a group, its old values and its new ones
abbrev pub part_of : ℕ × (Cells × Cells) → Part
part_of p = record { group = p.0; old = p.1.0; new = p.1.1 }

-- a group, its old values, and as many new ones
unfoldable pub part : Reading Part
part = made part_of (tested is_part (byte ▸ λ group. row ▸ λ old. times (length old) value))

-- the first number is below the next, and so on
abbrev pub rise : List ℕ → Bool
rise [] = true
rise (x ∷ []) = true
rise (x ∷ y ∷ ys) = nat_lt x y && rise (y ∷ ys)

-- each part's group is above the one before it
abbrev pub groups_rise : List Part → Bool
groups_rise parts = rise (map (λ (part : Part). part.group) parts)

-- a count, and so many parts
unfoldable pub parts : Reading (List Part)
parts = tested groups_rise (behind byte (limited 33 part))

-- an insert of a row into a table
abbrev pub insert_of : ℕ × Cells → Call
insert_of p = Insert p.0 p.1

-- an update of the row with a key in a table
abbrev pub update_of : ℕ × (Cells × List Part) → Call
update_of p = Update p.0 p.1.0 p.1.1

-- a delete of a row from a table
abbrev pub delete_of : ℕ × Cells → Call
delete_of p = Delete p.0 p.1

-- a table and a row
abbrev pub insert : Reading Call
insert = made insert_of (u16_number ▸ λ table. row)

-- a table, a key and parts
abbrev pub update : Reading Call
update = made update_of (u16_number ▸ λ table. key ▸ λ of. parts)

-- a table and a row
abbrev pub delete : Reading Call
delete = made delete_of (u16_number ▸ λ table. row)

-- what stands behind the byte that tells the kind of a call
abbrev pub call_of_kind : ℕ → Reading Call
call_of_kind kind = either (kind == 1) insert (either (kind == 2) update (either (kind == 3) delete nothing))

-- an insert, an update or a delete, by its kind
unfoldable pub call : Reading Call
call = behind byte call_of_kind

-- the transaction of these calls
abbrev pub txn_of : List Call → Txn
txn_of calls = record { calls = calls }

-- a count, and so many calls
unfoldable pub txn : Reading Txn
txn = made txn_of (behind u32_number (limited 1000 call))

-- a number from 1, and a position above the one that it depends on
abbrev pub is_place : ℕ × (ℕ × ℕ) → Bool
is_place p = nat_le 1 p.0 && nat_lt p.1.1 p.1.0

-- the number, the position, and what it depends on
unfoldable pub place : Reading (ℕ × (ℕ × ℕ))
place = tested is_place (u64_number ▸ λ number. u64_number ▸ λ position. u64_number)

-- a master, and how far it was seen
abbrev pub past_entry_of : SiteName × ℕ → PastEntry
past_entry_of p = record { origin = p.0; number = p.1 }

-- a number from 1
abbrev pub is_from_one : PastEntry → Bool
is_from_one seen = nat_le 1 seen.number

-- a master, and a number from 1
unfoldable pub seen : Reading PastEntry
seen = tested is_from_one (made past_entry_of (site ▸ λ origin. u64_number))

-- none of them is this site
abbrev pub are_others : SiteName → List PastEntry → Bool
are_others from past = list_all (λ (seen : PastEntry). not (same_bytes seen.origin.0 from.0)) past

-- the first name is below the next, and so on
abbrev pub names_rise : List PastEntry → Bool
names_rise [] = true
names_rise (first ∷ []) = true
names_rise (first ∷ next ∷ past) = is_lt (name_cmp first.origin.0 next.origin.0) && names_rise (next ∷ past)

-- the masters of a past aren't the sender, and stand in order
abbrev pub is_past : SiteName → List PastEntry → Bool
is_past from past = are_others from past && names_rise past

-- a count up to 7, and so many masters
unfoldable pub past : SiteName → Reading (List PastEntry)
past from = tested (is_past from) (behind byte (up_to 7 seen))

-- the past of a packet, where its version tells one
abbrev pub past_of_version : Version → SiteName → Reading (List PastEntry)
past_of_version First from = given []
past_of_version Second from = past from

-- a transaction on its way, of both sites, its place, its past and itself
abbrev pub carry_of : SiteName × (SiteName × ((ℕ × (ℕ × ℕ)) × (List PastEntry × Txn))) → Packet
carry_of p = Carry p.0 p.1.0 p.1.1.0.0 p.1.1.0.1.0 p.1.1.0.1.1 p.1.1.1.0 p.1.1.1.1

-- both sites, a place, a past and a transaction
abbrev pub carry : Version → Reading Packet
carry version = made carry_of (site ▸ λ from. site ▸ λ to. place ▸ λ at. past_of_version version from ▸ λ seen. txn)

-- a mark of both sites and a position
abbrev pub mark_packet_of : SiteName × (SiteName × ℕ) → Packet
mark_packet_of p = Mark p.0 p.1.0 p.1.1

-- both sites and a position
abbrev pub mark : Reading Packet
mark = made mark_packet_of (site ▸ λ from. site ▸ λ to. u64_number)

-- what stands behind the byte that tells the kind of a packet
abbrev pub packet_of_kind : Version → ℕ → Reading Packet
packet_of_kind version kind = either (kind == 1) (carry version) (either (kind == 2) mark nothing)

-- what stands behind the byte that tells the version
abbrev pub packet_of_version : ℕ → Reading Packet
packet_of_version version = either (version == 1) (behind byte (packet_of_kind First)) (either (version == 2) (behind byte (packet_of_kind Second)) nothing)

-- the version, and a packet
unfoldable pub packet : Reading Packet
packet = behind byte packet_of_version

-- the packet that bytes are, with nothing behind it
abbrev pub packet_in : List ℕ → Option Packet
packet_in bytes = packet bytes >>= whole
