-- The sealed packet carries the transaction.
use Rattle.packet_code.proofs.Sealing.{sealed_packet-IsEncoding, sealed-IsEncoding}
use Rattle.packet_code.proofs.sealed.Sealed.seal_carry.Goals as goal

pub invariant_of-result : goal.invariant_of-result
invariant_of-result c = sealed-IsEncoding _ _ c.in_ok-carry_bytes.ensures

pub returns : goal.returns
returns c = sealed_packet-IsEncoding _ _ c.in_ok-carry_bytes.ensures
