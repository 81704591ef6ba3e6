-- Drawing lanes one by one.
use Rattle.std.proofs.Common.{◌≡◌}
use Rattle.run_picture.proofs.heads.draw_lanes.Given as goal

-- nothing is marked
abbrev pub invariant-loop-place : goal.invariant-loop-place
invariant-loop-place l = l.pen ≡ l.fn.pen
