-- The bytes are those of the packet that was sealed.
use Rattle.std.proofs.Common.{sym, ap, ◌∙◌}
use Rattle.packet_code.specs.Sealing.{sealed_packet}
use Rattle.packet_code.proofs.Sealing.{sealed_packet-read}
use Rattle.packet_code.proofs.sealed.Sealed.unseal.Goals as goal

pub returns-in-Ok-clause-same : goal.returns-in-Ok-clause-same
returns-in-Ok-clause-same c =
    sym (sealed_packet-read c.deref.result.now c.in-Ok.packet c.in-Ok.ensures) ∙ ap sealed_packet c.deref.ensures.value ∙ c.self.view_is
