-- Marking the tables one after the other.
use Rattle.std.proofs.Common.{◌≡◌, ◌<◌, ℕ, false, length}
use Rattle.std.specs.Prelude.{nat_lt, slice_index_or}
use Rattle.rep_schema.proofs.table_set.TableSet.below.Given as goal

-- the tables so far are marked where they are below the number
abbrev pub invariant-loop-i : goal.invariant-loop-i
invariant-loop-i l = record {
  whole : length l.held ≡ 32;
  marked : (t : ℕ) → t < l.i → slice_index_or l.held t false ≡ nat_lt t l.number;
}
