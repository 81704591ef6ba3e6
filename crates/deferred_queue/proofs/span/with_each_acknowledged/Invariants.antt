-- The span has those of the numbers that the streams up to the place have passed since the last purge.
use Rattle.std.proofs.Common.{◌≡◌, ℕ, true, false, take}
use Rattle.deferred_queue.specs.QueueState.{kept_of, swept_of, is_unpassed}
use Rattle.deferred_queue.specs.Spans.{Covers}
use Rattle.deferred_queue.proofs.span.with_each_acknowledged.Given as goal

abbrev pub invariant-loop-stream : goal.invariant-loop-stream
invariant-loop-stream l = record {
  covers : (number : ℕ) → is_unpassed (swept_of (take l.stream-index l.streams)) number ≡ true → is_unpassed (kept_of l.streams) number ≡ false → Covers l.span number;
  wider : (other : ℕ) → Covers l.initial.span other → Covers l.span other;
}
