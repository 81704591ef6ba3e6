-- Making part by part.
use Rattle.std.proofs.Common.{◌≡◌, ◌≤◌, length, map, take, vec_capacity}
use Rattle.std.specs.Prelude.{vec_len}
use Rattle.conflict_detect.specs.ChangeCalls.{part_between}
use Rattle.conflict_detect.proofs.change_call.parts_between.Given as goal

-- the parts of the groups so far are made, and there is room for the others
abbrev pub invariant-loop-group : goal.invariant-loop-group
invariant-loop-group l = record {
  so_far : l.parts.items ≡ map (part_between l.schema l.table l.before l.after) (take l.group-index l.group-items);
  few : vec_len l.parts ≤ l.group-index;
  room : length l.group-items ≤ vec_capacity l.parts;
}
