-- Drawing packets one by one.
use Rattle.std.proofs.Common.{◌≡◌}
use Rattle.run_picture.proofs.rows.Scene.draw_packets.Given as goal

-- nothing is marked
abbrev pub invariant-loop-packet : goal.invariant-loop-packet
invariant-loop-packet l = l.pen ≡ l.fn.pen
