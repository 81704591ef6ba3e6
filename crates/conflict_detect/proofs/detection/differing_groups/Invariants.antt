-- Gathering the groups in which two rows differ.
use Rattle.std.proofs.Common.{◌≡◌, ◌≤◌, length}
use Rattle.std.specs.Prelude.{filter}
use Rattle.std.specs.List.{range_with_len}
use Rattle.rep_schema.specs.Groups.{differ_in}
use Rattle.conflict_detect.proofs.detection.differing_groups.Given as goal

-- those of the named groups so far are gathered
abbrev pub invariant-loop-group : goal.invariant-loop-group
invariant-loop-group l = record {
  few : length l.groups ≤ l.group;
  so_far : l.groups ≡ filter (differ_in l.schema l.table l.a l.b) (range_with_len 0 l.group);
}
