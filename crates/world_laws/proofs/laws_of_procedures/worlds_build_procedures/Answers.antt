-- The law of what scripts make of procedures.
use Rattle.world_laws.proofs.ProceduresStay.{scripts_procs}
use Rattle.world_laws.proofs.laws_of_procedures.worlds_build_procedures.Goals as goal

pub returns : goal.returns
returns c = scripts_procs
