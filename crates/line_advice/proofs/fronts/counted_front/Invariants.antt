-- No front that is longer than the one looked at has so few tokens.
use Rattle.std.proofs.Common.{◌≡◌, ◌<◌, ◌≤◌, ℕ, false, length, take}
use Rattle.line_advice.specs.Fronts.{has_at_most}
use Rattle.line_advice.proofs.fronts.counted_front.Given as goal

abbrev pub invariant-loop-place : goal.invariant-loop-place
invariant-loop-place l = record {
  within : l.place ≤ length l.line;
  last : (k : ℕ) → l.place < k → k ≤ length l.line → has_at_most l.most (take k l.line) ≡ false;
}

abbrev pub decreases-loop-place : goal.decreases-loop-place
decreases-loop-place l = l.place
