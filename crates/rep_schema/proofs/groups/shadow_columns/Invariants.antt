-- Gathering the columns of the shadow group.
use Rattle.std.proofs.Common.{◌≡◌, ◌≤◌, ◌++◌, length, drop}
use Rattle.rep_schema.specs.Groups.{shadow_from}
use Rattle.rep_schema.proofs.groups.shadow_columns.Given as goal

-- the columns gathered and those to come are all
abbrev pub invariant-loop-i : goal.invariant-loop-i
invariant-loop-i l = record {
  few : length l.shadow ≤ l.i;
  whole : l.shadow ++ shadow_from l.groups l.i (drop l.i l.columns) ≡ shadow_from l.groups 0 l.columns;
}
