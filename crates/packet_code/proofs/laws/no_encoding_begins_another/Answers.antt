-- Reading tells the one packet in front, and what is left.
use Rattle.std.proofs.Common.{[], ◌++◌, ap, sym, ◌∙◌}
use Rattle.std.proofs.lemmas.List.{append-nil}
use Rattle.packet_code.specs.Forms.{packet}
use Rattle.packet_code.proofs.Exact.{same_read}
use Rattle.packet_code.proofs.Decoded.{packet-accepted}
use Rattle.packet_code.proofs.laws.no_encoding_begins_another.Goals as goal

pub returns : goal.returns
returns c = λ whole other bytes more is is_other.
    let same = same_read (whole, []) (other, more) (sym (packet-accepted (bytes ++ more) [] whole is) ∙ ap packet (append-nil (bytes ++ more)) ∙ packet-accepted bytes more other is_other) in
    (same.0, sym same.1)
