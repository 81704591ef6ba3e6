-- The indexes up to the place are changed.
use Rattle.std.proofs.Common.{◌≡◌, ◌++◌, map, take, drop, option_copied, vec_len}
use Rattle.page_tables.specs.Index.{listed}
use Rattle.page_tables.proofs.unique_index.list.Given as goal

abbrev pub invariant-loop-place : goal.invariant-loop-place
invariant-loop-place l = record {
  changed : l.indexes.items ≡ map (listed l.rows l.slot (option_copied l.before)) (take l.place l.fn.indexes.items) ++ drop l.place l.fn.indexes.items;
  number : vec_len l.indexes ≡ vec_len l.fn.indexes;
}
