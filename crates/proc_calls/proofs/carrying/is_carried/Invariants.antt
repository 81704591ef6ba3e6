-- What is left decides.
use Rattle.std.proofs.Common.{◌≡◌, drop}
use Rattle.std.specs.Prelude.{is_some}
use Rattle.std.specs.List.{list_all}
use Rattle.proc_state.specs.Carriers.{call_in}
use Rattle.proc_calls.proofs.carrying.is_carried.Given as goal

abbrev pub invariant-loop-call : goal.invariant-loop-call
invariant-loop-call l = record {
  rest : list_all (λ call. is_some (call_in l.schema l.procedures call)) l.txn.calls ≡ list_all (λ call. is_some (call_in l.schema l.procedures call)) (drop l.call-index l.txn.calls);
}
