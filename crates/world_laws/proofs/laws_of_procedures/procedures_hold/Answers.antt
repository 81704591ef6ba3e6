-- The laws of procedures.
use Rattle.world_laws.proofs.ProceduresHold.{procedures_hold_in_scripts}
use Rattle.world_laws.proofs.laws_of_procedures.procedures_hold.Goals as goal

pub returns : goal.returns
returns c = procedures_hold_in_scripts
