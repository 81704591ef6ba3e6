-- The calls of changed rows, one after another.
use Rattle.std.proofs.Common.{◌≡◌, ◌≤◌, length, map, take, vec_capacity}
use Rattle.std.specs.Prelude.{vec_len}
use Rattle.conflict_detect.specs.ChangeCalls.{call_of}
use Rattle.conflict_detect.proofs.change_call.txn_of.Given as goal

-- those so far are made, and there is room for the others
abbrev pub invariant-loop-change : goal.invariant-loop-change
invariant-loop-change l = record {
  so_far : l.calls.items ≡ map (call_of l.schema) (take l.change-index l.changes);
  few : vec_len l.calls ≤ l.change-index;
  room : length l.changes ≤ vec_capacity l.calls;
}
