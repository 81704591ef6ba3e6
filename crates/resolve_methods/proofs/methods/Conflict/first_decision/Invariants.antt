-- Asking method by method.
use Rattle.std.proofs.Common.{◌≡◌, drop}
use Rattle.resolve_methods.specs.Decide.{first_decision}
use Rattle.resolve_methods.proofs.methods.Conflict.first_decision.Given as goal

-- the methods that are left decide
abbrev pub invariant-loop-method : goal.invariant-loop-method
invariant-loop-method l = first_decision l.self.schema.now l.self.table l.self.part.now l.self.current.now (drop l.method-index l.methods) ≡ first_decision l.self.schema.now l.self.table l.self.part.now l.self.current.now l.methods
