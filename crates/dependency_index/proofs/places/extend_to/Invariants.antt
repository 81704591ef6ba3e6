-- The zeros so far change no position.
use Rattle.std.proofs.Common.{◌≡◌, ℕ, length}
use Rattle.std.specs.Prelude.{vec_capacity}
use Rattle.dependency_index.specs.Columns.{last_at, put_at}
use Rattle.dependency_index.proofs.places.extend_to.Given as goal

abbrev pub invariant-loop : goal.invariant-loop
invariant-loop l = record {
  before : last_at l.place l.last.items ≡ last_at l.place l.initial.last.items;
  same : (position : ℕ) → put_at l.place position l.last.items ≡ put_at l.place position l.initial.last.items;
  long : length l.last.items ≡ l.counter;
  capacity : vec_capacity l.last ≡ vec_capacity l.initial.last;
}
