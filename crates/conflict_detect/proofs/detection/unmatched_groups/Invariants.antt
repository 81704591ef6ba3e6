-- Gathering the groups of unmatched parts.
use Rattle.std.proofs.Common.{◌≡◌, ◌≤◌, length, take}
use Rattle.conflict_detect.specs.Differing.{unmatched_groups}
use Rattle.conflict_detect.proofs.detection.unmatched_groups.Given as goal

-- those of the parts so far are gathered
abbrev pub invariant-loop-part : goal.invariant-loop-part
invariant-loop-part l = record {
  few : length l.groups ≤ l.part-index;
  so_far : l.groups ≡ unmatched_groups l.schema l.table l.row (take l.part-index l.parts);
}
