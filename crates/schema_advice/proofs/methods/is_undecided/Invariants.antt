-- No method so far decides every conflict.
use Rattle.std.proofs.Common.{◌≡◌, drop}
use Rattle.std.specs.List.{list_any}
use Rattle.schema_advice.specs.Methods.{is_decisive}
use Rattle.schema_advice.proofs.methods.is_undecided.Given as goal

abbrev pub invariant-loop-method : goal.invariant-loop-method
invariant-loop-method l = list_any is_decisive (drop l.method-index l.fn.group.methods) ≡ list_any is_decisive l.fn.group.methods
