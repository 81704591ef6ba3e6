-- Marking the tables one after the other.
use Rattle.std.proofs.Common.{◌≡◌, ◌<◌, ◌==◌, ℕ, false, length}
use Rattle.std.specs.Prelude.{slice_index_or}
use Rattle.std.specs.List.{list_any}
use Rattle.rep_schema.proofs.table_set.TableSet.of.Given as goal

-- the tables so far are marked where they are named
abbrev pub invariant-loop-i : goal.invariant-loop-i
invariant-loop-i l = record {
  whole : length l.held ≡ 32;
  marked : (t : ℕ) → t < l.i → slice_index_or l.held t false ≡ list_any (λ n. n == t) l.tables;
}
