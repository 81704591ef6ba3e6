-- Noting heights one by one.
use Rattle.std.proofs.Common.{◌≡◌, length}
use Rattle.run_picture.proofs.chart.note_starts.Given as goal

-- there are as many as before
abbrev pub invariant-loop-place : goal.invariant-loop-place
invariant-loop-place l = length l.starts.items ≡ length l.fn.starts.items
