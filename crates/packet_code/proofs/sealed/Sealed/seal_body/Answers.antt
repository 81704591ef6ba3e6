-- The sealed packet carries what was encoded.
use Rattle.packet_code.proofs.Sealing.{sealed_packet-IsEncoding, sealed-IsEncoding}
use Rattle.packet_code.proofs.sealed.Sealed.seal_body.Goals as goal

pub invariant_of-result : goal.invariant_of-result
invariant_of-result c =
    let carries = c.requires.carries in
    sealed-IsEncoding _ _ (c.in_ok-loaded_bytes.ensures carries.0 carries.1 (rw c.bytes.ensures carries.2))

pub returns : goal.returns
returns c = λ past txn can. sealed_packet-IsEncoding _ _ (c.in_ok-loaded_bytes.ensures past txn (rw c.bytes.ensures can))
