-- All are procedures where those from the place on are.
use Rattle.std.proofs.Common.{drop}
use Rattle.proc_state.specs.Calls.{AreProcedures}
use Rattle.proc_cases.proofs.fitting.are_procedures.Given as goal

abbrev pub invariant-loop-procedure : goal.invariant-loop-procedure
invariant-loop-procedure l = AreProcedures l.schema (drop l.procedure-index l.procedures) → AreProcedures l.schema l.procedures
