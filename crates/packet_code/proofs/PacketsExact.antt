-- Packets are read exactly, in both versions.
use Rattle.std.proofs.Common.{◌≡◌, ℕ, suc, ◌<◌, ◌≤◌, ◌^◌, ◌==◌, Bool, true, false, nat_le, nat_lt, List, [], ◌∷◌, ◌++◌, inl, inr, Some, refl, sym, ap, ◌∙◌, arith, append_assoc, append-nil}
use Rattle.std.specs.Prelude.{◌↔◌}
use Rattle.std.specs.Int.{w64, to_be_bytes}
use Rattle.std.proofs.lemmas.Bool.{leb-true, le-leb, eqb-true}
use Rattle.rep_values.specs.declared.name.SiteName.{SiteName}
use Rattle.rep_calls.specs.declared.call.Txn.{Txn}
use Rattle.rep_calls.specs.declared.past.PastEntry.{PastEntry}
use Rattle.packet_code.specs.declared.packet.Packet.{Packet}
use Rattle.packet_code.specs.declared.packet.Packet.TheVariants.{Carry, Mark}
use Rattle.packet_code.specs.declared.version.Version.{Version}
use Rattle.packet_code.specs.declared.version.Version.TheVariants.{First, Second}
use Rattle.packet_code.specs.Limits.{IsSiteName, IsPlainTxn, IsPlace, IsCausalPast, IsPacket}
use Rattle.packet_code.specs.Spelling.{name_bytes, txn_bytes, past_bytes, packet_bytes, older_packet_bytes, HasNoPast, IsAccepted}
use Rattle.packet_code.specs.Reading.{nothing, byte, behind, either}
use Rattle.packet_code.specs.Forms.{is_place, place, past_of_version, carry_of, carry, mark_packet_of, mark, packet_of_kind, packet}
use Rattle.packet_code.proofs.Exact.{IsExact, AreBytes, left_bytes, both_true, said_so, tested-exact, made-exact, pair-exact, behind-exact, either-exact, nothing-exact, given-exact, byte-exact, bound}
use Rattle.packet_code.proofs.Numbers.{u64-exact}
use Rattle.packet_code.proofs.FormsExact.{site-exact}
use Rattle.packet_code.proofs.PastsExact.{past-exact}
use Rattle.packet_code.proofs.CallsExact.{of_kind, txn-exact}

place_test : (p : ℕ × (ℕ × ℕ)) → (is_place p ≡ true) ↔ ((1 ≤ p.0) × (p.1.1 < p.1.0))
place_test p = (
  λ e. let b = both_true (nat_le 1 p.0) (nat_lt p.1.1 p.1.0) e in (leb-true 1 p.0 b.0, leb-true (suc p.1.1) p.1.0 b.1),
  λ h. rw (le-leb 1 p.0 h.0, le-leb (suc p.1.1) p.1.0 h.1) refl,
)

pub place-exact : IsExact (λ (p : ℕ × (ℕ × ℕ)). IsPlace p.0 p.1.0 p.1.1) (λ p. to_be_bytes w64 p.0 ++ to_be_bytes w64 p.1.0 ++ to_be_bytes w64 p.1.1) place
unfolding place
place-exact = said_so
    (tested-exact (pair-exact u64-exact (λ number fits. pair-exact u64-exact (λ position fits. u64-exact))) is_place (λ p. (1 ≤ p.0) × (p.1.1 < p.1.0)) (λ p is. place_test p))
    (λ p. (
      λ is. record { from_one = is.1.0; number_fits = is.0.0; position_fits = is.0.1.0; earlier = is.1.1 },
      λ is. ((is.number_fits, (is.position_fits, lt-trans is.earlier is.position_fits)), (is.from_one, is.earlier)),
    ))
  where
    lt-trans : {a b c : ℕ} → a < b → b < c → a < c
    lt-trans below above = omega (arith, below, above)

-- the bytes of a past in a version
abbrev told_bytes : Version → List PastEntry → List ℕ
told_bytes First past = []
told_bytes Second past = past_bytes past

-- a past that a version can tell
abbrev CanTell : Version → List PastEntry → Type 0
CanTell First past = past ≡ []
CanTell Second past = Unit {0}

no_past : (from : SiteName) → IsCausalPast from []
no_past from = record { most = omega arith; each = tt; rise = tt }

past_of_version-exact : (version : Version) (from : SiteName) → IsExact (λ past. IsCausalPast from past × CanTell version past) (told_bytes version) (past_of_version version from)
past_of_version-exact First from = said_so (given-exact []) (λ past. (λ e. (rw e (no_past from), e), λ is. is.1))
past_of_version-exact Second from = said_so (past-exact from) (λ past. (λ is. (is, tt), λ is. is.0))

-- which kind a packet is
abbrev packet_kind : Packet → ℕ
packet_kind (Carry from to number position dep past sent) = 1
packet_kind (Mark from to finished) = 2

-- the bytes of a packet behind its kind
abbrev packet_rest : Version → Packet → List ℕ
packet_rest version (Carry from to number position dep past sent) =
    name_bytes from ++ name_bytes to ++ to_be_bytes w64 number ++ to_be_bytes w64 position ++ to_be_bytes w64 dep ++ told_bytes version past ++ txn_bytes sent
packet_rest version (Mark from to finished) = name_bytes from ++ name_bytes to ++ to_be_bytes w64 finished

-- a packet that a version can tell
abbrev pub IsPacketIn : Version → Packet → Type 0
IsPacketIn First packet = IsPacket packet × HasNoPast packet
IsPacketIn Second packet = IsPacket packet × Unit {0}

-- such a packet of a kind
abbrev IsPacketOfKind : Version → ℕ → Packet → Type 0
IsPacketOfKind version kind packet = IsPacketIn version packet × (packet_kind packet ≡ kind)

carries : (version : Version) (from to : SiteName) (number position dep : ℕ) (past : List PastEntry) (sent : Txn)
    → IsPacketIn version (Carry from to number position dep past sent) ↔ (IsPacket (Carry from to number position dep past sent) × CanTell version past)
carries First from to number position dep past sent = (λ is. is, λ is. is)
carries Second from to number position dep past sent = (λ is. is, λ is. is)

marks : (version : Version) (from to : SiteName) (finished : ℕ) → IsPacketIn version (Mark from to finished) ↔ IsPacket (Mark from to finished)
marks First from to finished = (λ is. is.0, λ is. (is, tt))
marks Second from to finished = (λ is. is.0, λ is. (is, tt))

-- pieces of a packet put together from the left, and as they are read
carry_pieces : (from to number position dep told sent : List ℕ) → from ++ to ++ number ++ position ++ dep ++ told ++ sent ≡ from ++ (to ++ ((number ++ position ++ dep) ++ (told ++ sent)))
carry_pieces from to number position dep told sent = simp append_assoc refl

carry-exact : (version : Version) → IsExact (IsPacketOfKind version 1) (packet_rest version) (carry version)
carry-exact version = made-exact (IsPacketOfKind version 1) (packet_rest version) carry_of
    (pair-exact site-exact (λ from is. pair-exact site-exact (λ to is. pair-exact place-exact (λ at is. pair-exact (past_of_version-exact version from) (λ past is. txn-exact)))))
    (λ p is. (
      (
        (carries version p.0 p.1.0 p.1.1.0.0 p.1.1.0.1.0 p.1.1.0.1.1 p.1.1.1.0 p.1.1.1.1).1
            (record { sender = is.0; receiver = is.1.0; at = is.1.1.0; seen = is.1.1.1.0.0; sent = is.1.1.1.1 }, is.1.1.1.0.1),
        refl,
      ),
      carry_pieces (name_bytes p.0) (name_bytes p.1.0) (to_be_bytes w64 p.1.1.0.0) (to_be_bytes w64 p.1.1.0.1.0) (to_be_bytes w64 p.1.1.0.1.1) (told_bytes version p.1.1.1.0) (txn_bytes p.1.1.1.1),
    ))
    back
  where
    back : (packet : Packet) → IsPacketOfKind version 1 packet
        → (p : SiteName × (SiteName × ((ℕ × (ℕ × ℕ)) × (List PastEntry × Txn))))
        × (IsSiteName p.0 × (IsSiteName p.1.0 × (IsPlace p.1.1.0.0 p.1.1.0.1.0 p.1.1.0.1.1 × ((IsCausalPast p.0 p.1.1.1.0 × CanTell version p.1.1.1.0) × IsPlainTxn p.1.1.1.1)))) × (carry_of p ≡ packet)
    back (Carry from to number position dep past sent) is =
        let in_version = (carries version from to number position dep past sent).0 is.0 in
        let whole = in_version.0 in
        ((from, (to, ((number, (position, dep)), (past, sent)))), (whole.sender, (whole.receiver, (whole.at, ((whole.seen, in_version.1), whole.sent)))), refl)
    back (Mark from to finished) is = cc

mark-exact : (version : Version) → IsExact (IsPacketOfKind version 2) (packet_rest version) mark
mark-exact version = made-exact (IsPacketOfKind version 2) (packet_rest version) mark_packet_of
    (pair-exact site-exact (λ from is. pair-exact site-exact (λ to is. u64-exact)))
    (λ p is. (((marks version p.0 p.1.0 p.1.1).1 (record { sender = is.0; receiver = is.1.0; mark_fits = is.1.1 }), refl), append_assoc (name_bytes p.0) (name_bytes p.1.0) (to_be_bytes w64 p.1.1)))
    back
  where
    back : (packet : Packet) → IsPacketOfKind version 2 packet
        → (p : SiteName × (SiteName × ℕ)) × (IsSiteName p.0 × (IsSiteName p.1.0 × (p.1.1 < 2 ^ 64))) × (mark_packet_of p ≡ packet)
    back (Carry from to number position dep past sent) is = cc
    back (Mark from to finished) is = let whole = (marks version from to finished).0 is.0 in ((from, (to, finished)), (whole.sender, (whole.receiver, whole.mark_fits)), refl)

-- no packet is of another kind
no_packet : (version : Version) (kind : ℕ) → (kind == 1) ≡ false → (kind == 2) ≡ false → (packet : Packet) → IsPacketOfKind version kind packet → ⊥
no_packet version kind one two (Carry from to number position dep past sent) is = let e : (kind == 1) ≡ true = rw (← is.1) refl in cc
no_packet version kind one two (Mark from to finished) is = let e : (kind == 2) ≡ true = rw (← is.1) refl in cc

-- the bytes of a packet behind the version
abbrev behind_version : Version → Packet → List ℕ
behind_version version packet = packet_kind packet ∷ packet_rest version packet

packet_kinds-exact : (version : Version) → IsExact (IsPacketIn version) (behind_version version) (behind byte (packet_of_kind version))
packet_kinds-exact version = behind-exact (IsPacketIn version) (behind_version version) packet_kind (packet_rest version) byte-exact of_each is_kind (λ packet. refl)
  where
    of_each : (kind : ℕ) → kind < 256 → IsExact (IsPacketOfKind version kind) (packet_rest version) (packet_of_kind version kind)
    of_each kind fits = either-exact (kind == 1) _ _ (of_kind (IsPacketOfKind version) (packet_rest version) _ kind 1 (carry-exact version))
        (λ one. either-exact (kind == 2) _ _ (of_kind (IsPacketOfKind version) (packet_rest version) _ kind 2 (mark-exact version))
        (λ two. nothing-exact (no_packet version kind one two)))

    is_kind : (packet : Packet) → IsPacketIn version packet → packet_kind packet < 256
    is_kind (Carry from to number position dep past sent) is = omega arith
    is_kind (Mark from to finished) is = omega arith

-- the byte of a version
abbrev version_byte : Version → ℕ
version_byte First = 1
version_byte Second = 2

-- the bytes of a packet in a version
abbrev pub bytes_in : Version → Packet → List ℕ
bytes_in version packet = version_byte version ∷ behind_version version packet

-- a packet that is read stands in front, in one of the versions
pub packet-sound : (bytes rest : List ℕ) (x : Packet) → AreBytes bytes → packet bytes ≡ Some (x, rest) → (version : Version) × IsPacketIn version x × (bytes_in version x ++ rest ≡ bytes)
unfolding packet
packet-sound bytes rest x all read =
    let b = bound (byte bytes) _ (x, rest) read in
    let s = byte-exact.sound bytes b.0.1 b.0.0 all b.1 in
    let left = left_bytes byte-exact bytes b.0.1 b.0.0 all b.1 in
    go b.0.0 b.0.1 left s.1 (b.0.0 == 1) refl (b.0.0 == 2) refl b.2
  where
    in_version : (version : Version) (tail : List ℕ) → AreBytes tail → version_byte version ∷ tail ≡ bytes → behind byte (packet_of_kind version) tail ≡ Some (x, rest)
        → (v : Version) × IsPacketIn v x × (bytes_in v x ++ rest ≡ bytes)
    in_version version tail left is there =
        let s = (packet_kinds-exact version).sound tail rest x left there in
        (version, s.0, ap (λ ys. version_byte version ∷ ys) s.1 ∙ is)

    go : (n : ℕ) (tail : List ℕ) → AreBytes tail → n ∷ tail ≡ bytes → (first : Bool) → (n == 1) ≡ first → (second : Bool) → (n == 2) ≡ second
        → either first (behind byte (packet_of_kind First)) (either second (behind byte (packet_of_kind Second)) nothing) tail ≡ Some (x, rest)
        → (v : Version) × IsPacketIn v x × (bytes_in v x ++ rest ≡ bytes)
    go n tail left is true one second two there = in_version First tail left (ap (λ m. m ∷ tail) (sym (eqb-true n 1 one)) ∙ is) there
    go n tail left is false one true two there = in_version Second tail left (ap (λ m. m ∷ tail) (sym (eqb-true n 2 two)) ∙ is) there
    go n tail left is false one false two there = cc

-- a packet's bytes in a version are read as the packet
pub packet-complete : (version : Version) (x : Packet) (rest : List ℕ) → IsPacketIn version x → packet (bytes_in version x ++ rest) ≡ Some (x, rest)
unfolding packet byte
packet-complete First x rest is = (packet_kinds-exact First).complete x rest is
packet-complete Second x rest is = (packet_kinds-exact Second).complete x rest is

-- what is accepted as a packet has its bytes in a version
pub accepted_in : (bytes : List ℕ) (x : Packet) → IsAccepted bytes x ↔ ((version : Version) × IsPacketIn version x × (bytes_in version x ≡ bytes))
accepted_in bytes x = (there, back)
  where
    written : (x : Packet) → packet_bytes x ≡ bytes_in Second x
    written (Carry from to number position dep past sent) = refl
    written (Mark from to finished) = refl

    nothing_told : (front sent : List ℕ) → front ++ sent ≡ front ++ [] ++ sent
    nothing_told front sent = ap (λ xs. xs ++ sent) (sym (append-nil front))

    older : (x : Packet) → older_packet_bytes x ≡ bytes_in First x
    older (Carry from to number position dep past sent) =
        ap (λ xs. 1 ∷ 1 ∷ xs) (nothing_told (name_bytes from ++ name_bytes to ++ to_be_bytes w64 number ++ to_be_bytes w64 position ++ to_be_bytes w64 dep) (txn_bytes sent))
    older (Mark from to finished) = refl

    there : IsAccepted bytes x → (version : Version) × IsPacketIn version x × (bytes_in version x ≡ bytes)
    there (inl is) = (Second, (is.plain, tt), sym (written x) ∙ is.bytes_are)
    there (inr is) = (First, (is.plain, is.no_past), sym (older x) ∙ is.bytes_are)

    back : (version : Version) × IsPacketIn version x × (bytes_in version x ≡ bytes) → IsAccepted bytes x
    back (First, is, same) = inr (record { plain = is.0; no_past = is.1; bytes_are = older x ∙ same })
    back (Second, is, same) = inl (record { plain = is.0; bytes_are = written x ∙ same })
