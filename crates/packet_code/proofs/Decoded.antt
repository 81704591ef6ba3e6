-- What is read of whole bytes is what they are decoded to.
use Rattle.std.proofs.Common.{◌≡◌, ℕ, suc, ◌<◌, List, [], ◌∷◌, ◌++◌, Some, None, get_or, length, refl, sym, ◌∙◌, ap, arith}
use Rattle.std.proofs.lemmas.List.{append-nil}
use Rattle.packet_code.specs.declared.packet.Packet.{Packet}
use Rattle.packet_code.specs.Spelling.{IsAccepted}
use Rattle.packet_code.specs.Reading.{whole}
use Rattle.packet_code.specs.Forms.{packet, packet_in}
use Rattle.packet_code.proofs.Exact.{AreBytes, bound}
use Rattle.packet_code.proofs.PacketsExact.{bytes_in, packet-sound, packet-complete, accepted_in}

-- nothing is left behind what is whole
whole_is : {A : Type 0} (p : A × List ℕ) (x : A) → whole p ≡ Some x → (p.0 ≡ x) × (p.1 ≡ [])
whole_is (y, []) x e = (cc, refl)
whole_is (y, b ∷ bs) x e = cc

-- bytes are accepted as the packet that is read
pub packet_in_is : (bytes : List ℕ) (x : Packet) → AreBytes bytes → packet_in bytes ≡ Some x → IsAccepted bytes x
packet_in_is bytes x all e =
    let b = bound (packet bytes) whole x e in
    let w = whole_is b.0 x b.2 in
    let s = packet-sound bytes b.0.1 b.0.0 all b.1 in
    rw (← w.0) ((accepted_in bytes b.0.0).1 (s.0, s.1, sym (append-nil (bytes_in s.0 b.0.0)) ∙ ap (λ xs. bytes_in s.0 b.0.0 ++ xs) (sym w.1) ∙ s.2))

-- the packet that bytes begin with is read
pub packet-accepted : (bytes more : List ℕ) (x : Packet) → IsAccepted bytes x → packet (bytes ++ more) ≡ Some (x, more)
packet-accepted bytes more x is =
    let s = (accepted_in bytes x).0 is in
    ap (λ xs. packet (xs ++ more)) (sym s.2) ∙ packet-complete s.0 x more s.1

-- the packet that bytes are accepted as is read
pub packet_in-accepted : (bytes : List ℕ) (x : Packet) → IsAccepted bytes x → packet_in bytes ≡ Some x
packet_in-accepted bytes x is =
    let read : packet bytes ≡ Some (x, []) = ap packet (sym (append-nil bytes)) ∙ packet-accepted bytes [] x is in
    rw read refl

-- where none is read, bytes are accepted as no packet
pub packet_in_none : (bytes : List ℕ) → packet_in bytes ≡ None → (x : Packet) → IsAccepted bytes x → ⊥
packet_in_none bytes e x is = let found = packet_in-accepted bytes x is in cc

-- bytes one by one are bytes
pub AreBytes-each : (bytes : List ℕ) → ((i : ℕ) → i < length bytes → get_or bytes i 0 < 256) → AreBytes bytes
AreBytes-each [] each = tt
AreBytes-each (b ∷ bs) each = (each 0 (omega arith), AreBytes-each bs (λ i lt. each (suc i) (omega (arith, lt))))
