-- Set after set, from the last one on.
use Rattle.std.proofs.Common.{◌≡◌, true, length, map, take, drop}
use Rattle.std.specs.Prelude.{is_some}
use Rattle.std.specs.List.{AllByRecursion}
use Rattle.txn_effects.specs.Sets.{names_columns, names_one_twice, sets_by_column}
use Rattle.txn_effects.specs.ByColumn.{set_of}
use Rattle.local_txn.proofs.sets.SetsByColumn.of.Given as goal

-- the sets from here on name columns, and each column has its number
abbrev pub invariant-loop-i : goal.invariant-loop-i
invariant-loop-i l = record {
  known : names_columns l.columns (drop l.i l.sets) ≡ true;
  twice : l.twice ≡ names_one_twice (drop l.i l.sets);
  size : length l.cells ≡ 32;
  numbered : AllByRecursion (λ cell. is_some cell ≡ is_some (set_of l.sets cell)) l.cells;
  each : map (set_of l.sets) (take (length l.columns) l.cells) ≡ sets_by_column l.columns (drop l.i l.sets);
}
