-- Counting key columns.
use Rattle.std.proofs.Common.{◌≡◌, ◌+◌, ◌≤◌, drop}
use Rattle.rep_schema.specs.Tables.{key_count}
use Rattle.rep_schema.proofs.conditions.key_count.Given as goal

-- those counted and those to come are all
abbrev pub invariant-loop-column : goal.invariant-loop-column
invariant-loop-column l = record {
  within : l.count ≤ l.column-index;
  all : l.count + key_count (drop l.column-index l.columns) ≡ key_count l.columns;
}
