-- The span has those of the numbers at the positions up to the place that each stream has passed.
use Rattle.std.proofs.Common.{◌≡◌, ℕ, ◌<◌, ◌≤◌, false, Some}
use Rattle.deferred_queue.specs.QueueState.{kept_of, position_of, is_unpassed}
use Rattle.deferred_queue.specs.Spans.{Covers}
use Rattle.deferred_queue.proofs.span.with_acknowledged.Given as goal

abbrev pub invariant-loop-place : goal.invariant-loop-place
invariant-loop-place l = record {
  covers : (number position : ℕ) → position_of number l.stream.kept.entries ≡ Some position → l.stream.swept < position → position ≤ l.place → is_unpassed (kept_of l.streams) number ≡ false → Covers l.span number;
  wider : (other : ℕ) → Covers l.initial.span other → Covers l.span other;
}
