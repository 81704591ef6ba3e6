-- The sealed packet is the one that was encoded.
use Rattle.std.proofs.Common.{sym}
use Rattle.packet_code.proofs.Sealing.{sealed_packet-IsEncoding, sealed-IsEncoding}
use Rattle.packet_code.proofs.sealed.Sealed.seal.Goals as goal

pub invariant_of-result : goal.invariant_of-result
invariant_of-result c = sealed-IsEncoding _ c.args.packet.now (record { plain = c.requires; bytes_are = sym c.in_ok-encode.ensures })

pub returns : goal.returns
returns c = sealed_packet-IsEncoding _ c.args.packet.now (record { plain = c.requires; bytes_are = sym c.in_ok-encode.ensures })
