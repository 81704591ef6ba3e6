-- The calls before the place are carried.
use Rattle.std.proofs.Common.{◌≡◌, ◌-◌, ◌≤◌, length, map, take, drop}
use Rattle.std.specs.Prelude.{vec_len, vec_capacity}
use Rattle.std.specs.List.{AllByRecursion}
use Rattle.proc_state.specs.Carriers.{carried}
use Rattle.proc_calls.specs.Carrying.{CallCanBeCarried}
use Rattle.proc_calls.proofs.carrying.carried_txn.Given as goal

abbrev pub invariant-loop-call : goal.invariant-loop-call
invariant-loop-call l = record {
  so_far : l.carriers.items ≡ map (carried l.schema l.procedures) (take l.call-index l.calls);
  plain : AllByRecursion CallCanBeCarried l.carriers.items;
  room : length (drop l.call-index l.calls) ≤ vec_capacity l.carriers - vec_len l.carriers;
}
