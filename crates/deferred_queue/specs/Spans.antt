-- The numbers of a span.
use Rattle.std.specs.Prelude.{ℕ, ◌≤◌, ◌&&◌, Bool, nat_le}
use Rattle.deferred_queue.specs.declared.span.Span.{Span}

-- a number from the first to the last of a span
abbrev pub Covers : Span → ℕ → Type 0
Covers span number = (span.first ≤ number) × (number ≤ span.last)

-- the test of that
abbrev pub is_covered : Span → ℕ → Bool
is_covered span number = nat_le span.first number && nat_le number span.last
