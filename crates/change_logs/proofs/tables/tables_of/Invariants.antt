-- The tables so far, and those that are left, are all of them.
use Rattle.std.proofs.Common.{◌≡◌, ◌-◌, ◌≤◌, ◌++◌}
use Rattle.std.specs.List.{filter, range_with_len}
use Rattle.rep_schema.specs.Sites.{has_table}
use Rattle.change_logs.proofs.tables.tables_of.Given as goal

abbrev pub invariant-loop-table : goal.invariant-loop-table
invariant-loop-table l = record {
  within : l.table ≤ l.number;
  all : l.tables ++ filter (has_table l.set) (range_with_len l.table (l.number - l.table)) ≡ filter (has_table l.set) (range_with_len 0 l.number);
}
