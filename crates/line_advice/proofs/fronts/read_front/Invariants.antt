-- No front that is longer than the one looked at is read.
use Rattle.std.proofs.Common.{◌≡◌, ◌<◌, ◌≤◌, ℕ, false, length, take}
use Rattle.line_advice.specs.Fronts.{is_read}
use Rattle.line_advice.proofs.fronts.read_front.Given as goal

abbrev pub invariant-loop-place : goal.invariant-loop-place
invariant-loop-place l = record {
  within : l.place ≤ length l.line;
  last : (k : ℕ) → l.place < k → k ≤ length l.line → is_read (take k l.line) ≡ false;
}

abbrev pub decreases-loop-place : goal.decreases-loop-place
decreases-loop-place l = l.place
