-- Bytes of packets, worked out by hand.
use Rattle.std.proofs.Common.{◌≡◌, [], ◌∷◌, Some, None, pos, negsuc, refl}
use Rattle.std.specs.Prelude.{codes}
use Rattle.rep_values.specs.declared.value.Value.TheVariants.{Num, Words}
use Rattle.rep_values.specs.declared.name.SiteName.{SiteName}
use Rattle.rep_calls.specs.declared.call.Call.TheVariants.{Insert, Update, Delete}
use Rattle.rep_calls.specs.declared.call.Txn.{Txn}
use Rattle.packet_code.specs.declared.packet.Packet.TheVariants.{Carry, Mark}
use Rattle.packet_code.specs.Spelling.{value_bytes, call_bytes, packet_bytes}
use Rattle.packet_code.specs.Reading.{byte, front, times}
use Rattle.packet_code.specs.Forms.{value, row, call, txn, place, seen, past, packet, packet_in}

-- the site A
abbrev site_a : SiteName
site_a = record { 0 = codes "A" }

-- the site B
abbrev site_b : SiteName
site_b = record { 0 = codes "B" }

-- the site C
abbrev site_c : SiteName
site_c = record { 0 = codes "C" }

-- an insert of (1, 'one') into the first table
abbrev one_insert : Txn
one_insert = record { calls = Insert 0 (Num (pos 1) ∷ Words (codes "one") ∷ []) ∷ [] }

-- the mark 3, from A to B
pub packet_bytes-Mark : packet_bytes (Mark site_a site_b 3)
    ≡ 2 ∷ 2 ∷ 1 ∷ 65 ∷ 1 ∷ 66 ∷ 0 ∷ 0 ∷ 0 ∷ 0 ∷ 0 ∷ 0 ∷ 0 ∷ 3 ∷ []
packet_bytes-Mark = refl

-- the first transaction, from A to B, where A had seen C up to number 2
pub packet_bytes-Carry : packet_bytes (Carry site_a site_b 1 1 0 (record { origin = site_c; number = 2 } ∷ []) one_insert)
    ≡ 2 ∷ 1 ∷ 1 ∷ 65 ∷ 1 ∷ 66 ∷ 0 ∷ 0 ∷ 0 ∷ 0 ∷ 0 ∷ 0 ∷ 0 ∷ 1 ∷ 0 ∷ 0 ∷ 0 ∷ 0 ∷ 0 ∷ 0 ∷ 0 ∷ 1 ∷ 0 ∷ 0 ∷ 0 ∷ 0 ∷ 0 ∷ 0 ∷ 0 ∷ 0
    ∷ 1 ∷ 1 ∷ 67 ∷ 0 ∷ 0 ∷ 0 ∷ 0 ∷ 0 ∷ 0 ∷ 0 ∷ 2 ∷ 0 ∷ 0 ∷ 0 ∷ 1 ∷ 1 ∷ 0 ∷ 0 ∷ 2 ∷ 1 ∷ 0 ∷ 0 ∷ 0 ∷ 0 ∷ 0 ∷ 0 ∷ 0 ∷ 1 ∷ 2 ∷ 3 ∷ 111 ∷ 110 ∷ 101 ∷ []
packet_bytes-Carry = refl

-- both are read
pub packet_in-Mark : packet_in (2 ∷ 2 ∷ 1 ∷ 65 ∷ 1 ∷ 66 ∷ 0 ∷ 0 ∷ 0 ∷ 0 ∷ 0 ∷ 0 ∷ 0 ∷ 3 ∷ []) ≡ Some (Mark site_a site_b 3)
unfolding packet byte front
packet_in-Mark = refl

pub packet_in-Carry : packet_in (2 ∷ 1 ∷ 1 ∷ 65 ∷ 1 ∷ 66 ∷ 0 ∷ 0 ∷ 0 ∷ 0 ∷ 0 ∷ 0 ∷ 0 ∷ 1 ∷ 0 ∷ 0 ∷ 0 ∷ 0 ∷ 0 ∷ 0 ∷ 0 ∷ 1 ∷ 0 ∷ 0 ∷ 0 ∷ 0 ∷ 0 ∷ 0 ∷ 0 ∷ 0
    ∷ 1 ∷ 1 ∷ 67 ∷ 0 ∷ 0 ∷ 0 ∷ 0 ∷ 0 ∷ 0 ∷ 0 ∷ 2 ∷ 0 ∷ 0 ∷ 0 ∷ 1 ∷ 1 ∷ 0 ∷ 0 ∷ 2 ∷ 1 ∷ 0 ∷ 0 ∷ 0 ∷ 0 ∷ 0 ∷ 0 ∷ 0 ∷ 1 ∷ 2 ∷ 3 ∷ 111 ∷ 110 ∷ 101 ∷ [])
    ≡ Some (Carry site_a site_b 1 1 0 (record { origin = site_c; number = 2 } ∷ []) one_insert)
unfolding packet byte front place past seen txn call row value times
packet_in-Carry = refl

-- so are the mark and the transaction in version 1, which tells no past
pub packet_in-older_Mark : packet_in (1 ∷ 2 ∷ 1 ∷ 65 ∷ 1 ∷ 66 ∷ 0 ∷ 0 ∷ 0 ∷ 0 ∷ 0 ∷ 0 ∷ 0 ∷ 3 ∷ []) ≡ Some (Mark site_a site_b 3)
unfolding packet byte front
packet_in-older_Mark = refl

pub packet_in-older_Carry : packet_in (1 ∷ 1 ∷ 1 ∷ 65 ∷ 1 ∷ 66 ∷ 0 ∷ 0 ∷ 0 ∷ 0 ∷ 0 ∷ 0 ∷ 0 ∷ 1 ∷ 0 ∷ 0 ∷ 0 ∷ 0 ∷ 0 ∷ 0 ∷ 0 ∷ 1 ∷ 0 ∷ 0 ∷ 0 ∷ 0 ∷ 0 ∷ 0 ∷ 0 ∷ 0
    ∷ 0 ∷ 0 ∷ 0 ∷ 1 ∷ 1 ∷ 0 ∷ 0 ∷ 2 ∷ 1 ∷ 0 ∷ 0 ∷ 0 ∷ 0 ∷ 0 ∷ 0 ∷ 0 ∷ 1 ∷ 2 ∷ 3 ∷ 111 ∷ 110 ∷ 101 ∷ [])
    ≡ Some (Carry site_a site_b 1 1 0 [] one_insert)
unfolding packet byte front place txn call row value times
packet_in-older_Carry = refl

-- the bytes of the mark without the last, with one more, and with a name of no byte are no packet
pub packet_in-cut : packet_in (1 ∷ 2 ∷ 1 ∷ 65 ∷ 1 ∷ 66 ∷ 0 ∷ 0 ∷ 0 ∷ 0 ∷ 0 ∷ 0 ∷ 0 ∷ []) ≡ None
unfolding packet byte front
packet_in-cut = refl

pub packet_in-longer : packet_in (1 ∷ 2 ∷ 1 ∷ 65 ∷ 1 ∷ 66 ∷ 0 ∷ 0 ∷ 0 ∷ 0 ∷ 0 ∷ 0 ∷ 0 ∷ 3 ∷ 0 ∷ []) ≡ None
unfolding packet byte front
packet_in-longer = refl

pub packet_in-unnamed : packet_in (1 ∷ 2 ∷ 0 ∷ 65 ∷ 1 ∷ 66 ∷ 0 ∷ 0 ∷ 0 ∷ 0 ∷ 0 ∷ 0 ∷ 0 ∷ 3 ∷ []) ≡ None
unfolding packet byte front
packet_in-unnamed = refl

-- the number -1 is all ones
pub value_bytes-minus_one : value_bytes (Num (negsuc 0)) ≡ 1 ∷ 255 ∷ 255 ∷ 255 ∷ 255 ∷ 255 ∷ 255 ∷ 255 ∷ 255 ∷ []
value_bytes-minus_one = refl

-- the lowest number
pub value_bytes-lowest : value_bytes (Num (negsuc 999999999999999)) ≡ 1 ∷ 255 ∷ 252 ∷ 114 ∷ 129 ∷ 91 ∷ 57 ∷ 128 ∷ 0 ∷ []
value_bytes-lowest = refl

-- the empty text
pub value_bytes-empty : value_bytes (Words []) ≡ 2 ∷ 0 ∷ []
value_bytes-empty = refl

-- an update in table 258 under the key 7: in the shadow group 5 becomes the empty text
pub call_bytes-Update : call_bytes (Update 258 (Num (pos 7) ∷ []) (record { group = 255; old = Num (pos 5) ∷ []; new = Words [] ∷ [] } ∷ []))
    ≡ 2 ∷ 1 ∷ 2 ∷ 1 ∷ 1 ∷ 0 ∷ 0 ∷ 0 ∷ 0 ∷ 0 ∷ 0 ∷ 0 ∷ 7 ∷ 1 ∷ 255 ∷ 1 ∷ 1 ∷ 0 ∷ 0 ∷ 0 ∷ 0 ∷ 0 ∷ 0 ∷ 0 ∷ 5 ∷ 2 ∷ 0 ∷ []
call_bytes-Update = refl

-- a delete of ('~') in the last table
pub call_bytes-Delete : call_bytes (Delete 65535 (Words (codes "~") ∷ [])) ≡ 3 ∷ 255 ∷ 255 ∷ 1 ∷ 2 ∷ 1 ∷ 126 ∷ []
call_bytes-Delete = refl
