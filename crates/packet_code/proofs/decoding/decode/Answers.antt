-- What is read tells what the bytes are decoded to.
use Rattle.packet_code.proofs.Decoded.{packet_in_is, packet_in_none, AreBytes-each}
use Rattle.packet_code.proofs.decoding.decode.Goals as goal

pub returns-in-Ok : goal.returns-in-Ok
returns-in-Ok c = packet_in_is c.args.bytes.now c.in-Ok.packet (AreBytes-each c.args.bytes.now (λ i lt. (c.type_inv.bytes i).fits)) c.in-Ok.ensures

pub returns-in-Err-Form : goal.returns-in-Err-Form
returns-in-Err-Form c = packet_in_none c.args.bytes.now (rw c.in-Err-Form.field-0-is at c.in-Err-Form.ensures)
