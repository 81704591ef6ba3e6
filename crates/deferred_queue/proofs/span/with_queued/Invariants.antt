-- The span has those of the numbers up to the place that each stream has passed.
use Rattle.std.proofs.Common.{◌≡◌, ℕ, ◌<◌, ◌≤◌, false}
use Rattle.deferred_queue.specs.QueueState.{kept_of, is_unpassed}
use Rattle.deferred_queue.specs.Spans.{Covers}
use Rattle.deferred_queue.proofs.span.with_queued.Given as goal

abbrev pub invariant-loop-place : goal.invariant-loop-place
invariant-loop-place l = record {
  covers : (number : ℕ) → l.last < number → number ≤ l.place → is_unpassed (kept_of l.streams) number ≡ false → Covers l.span number;
  wider : (other : ℕ) → Covers l.initial.span other → Covers l.span other;
}
