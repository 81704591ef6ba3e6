-- The head of an encoding tells the position of what is encoded.
use Rattle.std.proofs.Common.{◌≡◌, ℕ, ◌<◌, ◌^◌, List, ◌∷◌, ◌++◌, Option, Some, None, refl, sym, ◌∙◌, ap, append_assoc}
use Rattle.std.specs.Int.{w64, to_be_bytes}
use Rattle.rep_values.specs.declared.name.SiteName.{SiteName}
use Rattle.packet_code.specs.declared.packet.Packet.{Packet}
use Rattle.packet_code.specs.declared.packet.Packet.TheVariants.{Carry, Mark}
use Rattle.packet_code.specs.declared.stream_position.StreamPosition.{StreamPosition}
use Rattle.packet_code.specs.Limits.{IsSiteName}
use Rattle.packet_code.specs.Spelling.{name_bytes, past_bytes, txn_bytes, IsEncoding}
use Rattle.packet_code.specs.Reading.{◌>>=◌, byte}
use Rattle.packet_code.specs.Route.{stream_position}
use Rattle.packet_code.specs.Heads.{head_position, carry_position, position_in}
use Rattle.packet_code.proofs.Exact.{pair-exact}
use Rattle.packet_code.proofs.Numbers.{u64-exact}
use Rattle.packet_code.proofs.FormsExact.{sized-exact, name_fits, site-exact}

-- both sites, a number and a position, as they are read
abbrev head_bytes : SiteName → SiteName → ℕ → ℕ → List ℕ
head_bytes from to number position = name_bytes from ++ (name_bytes to ++ (to_be_bytes w64 number ++ to_be_bytes w64 position))

-- pieces of a packet put together from the left, and as its head is read
head_pieces : (from to number position dep told sent : List ℕ)
    → from ++ to ++ number ++ position ++ dep ++ told ++ sent ≡ (from ++ (to ++ (number ++ position))) ++ (dep ++ told ++ sent)
head_pieces from to number position dep told sent = simp append_assoc refl

carry_position-complete : (from to : SiteName) (number position : ℕ) (rest : List ℕ) → IsSiteName from → IsSiteName to → number < 2 ^ 64 → position < 2 ^ 64
    → carry_position (head_bytes from to number position ++ rest) ≡ Some (Some (record { from = from; position = position }), rest)
carry_position-complete from to number position rest sender receiver number_fits position_fits =
    let head-exact = pair-exact site-exact (λ from is. pair-exact sized-exact (λ to is. pair-exact u64-exact (λ number fits. u64-exact))) in
    ap (λ (read : Option ((SiteName × (List ℕ × (ℕ × ℕ))) × List ℕ)). read >>= λ x. Some (head_position x.0, x.1))
    (head-exact.complete (from, (to.0, (number, position))) rest (sender, (name_fits to.0 receiver, (number_fits, position_fits))))

-- what the first two bytes tell
carry_behind : (bytes : List ℕ) → position_in (2 ∷ 1 ∷ bytes) ≡ (carry_position bytes >>= λ x. Some x.0)
unfolding byte
carry_behind bytes = refl

mark_behind : (bytes : List ℕ) → position_in (2 ∷ 2 ∷ bytes) ≡ Some None
unfolding byte
mark_behind bytes = refl

-- the bytes of a packet begin with its position
position_in-IsEncoding : (packet : Packet) (bytes : List ℕ) → IsEncoding bytes packet → position_in bytes ≡ Some (stream_position packet)
position_in-IsEncoding (Carry from to number position dep past txn) bytes is =
    let rest : List ℕ = to_be_bytes w64 dep ++ past_bytes past ++ txn_bytes txn in
    let split = head_pieces (name_bytes from) (name_bytes to) (to_be_bytes w64 number) (to_be_bytes w64 position) (to_be_bytes w64 dep) (past_bytes past) (txn_bytes txn) in
    ap position_in (sym is.bytes_are ∙ ap (λ (bytes : List ℕ). 2 ∷ 1 ∷ bytes) split)
    ∙ carry_behind (head_bytes from to number position ++ rest)
    ∙ ap (λ (read : Option (Option StreamPosition × List ℕ)). read >>= λ x. Some x.0)
    (carry_position-complete from to number position rest is.plain.sender is.plain.receiver is.plain.at.number_fits is.plain.at.position_fits)
position_in-IsEncoding (Mark from to mark) bytes is = ap position_in (sym is.bytes_are) ∙ mark_behind (name_bytes from ++ name_bytes to ++ to_be_bytes w64 mark)

-- so what is read there is its position
pub position_is : (packet : Packet) (bytes : List ℕ) (read : Option StreamPosition) → IsEncoding bytes packet → position_in bytes ≡ Some read
    → read ≡ stream_position packet
position_is packet bytes read is e = let whole = position_in-IsEncoding packet bytes is in cc

-- and something is
pub position_told : (packet : Packet) (bytes : List ℕ) → IsEncoding bytes packet → position_in bytes ≡ None → ⊥
position_told packet bytes is e = let whole = position_in-IsEncoding packet bytes is in cc
