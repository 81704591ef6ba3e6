-- The methods that are left give what all give.
use Rattle.std.proofs.Common.{◌≡◌, drop, false}
use Rattle.schema_advice.specs.Methods.{parting_from}
use Rattle.schema_advice.proofs.methods.parting_method.Given as goal

abbrev pub invariant-loop-method : goal.invariant-loop-method
invariant-loop-method l = parting_from l.masters l.single l.equal (drop l.method-index l.fn.group.methods) ≡ parting_from l.masters l.single false l.fn.group.methods
