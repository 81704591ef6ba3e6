-- The keys from the place on rise.
use Rattle.std.proofs.Common.{◌≤◌, drop, length}
use Rattle.rep_lists.specs.Rising.{IsRising}
use Rattle.rep_values.specs.Order.{key_cmp}
use Rattle.change_logs.proofs.touched.is_rising.Given as goal

abbrev pub invariant-loop-place : goal.invariant-loop-place
invariant-loop-place l = record {
  within : l.place ≤ length l.keys;
  rising : IsRising key_cmp (drop l.place l.keys);
}

abbrev pub decreases-loop-place : goal.decreases-loop-place
decreases-loop-place l = l.place
