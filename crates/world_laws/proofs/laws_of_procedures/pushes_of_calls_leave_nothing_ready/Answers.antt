-- The law of pushes of calls.
use Rattle.world_laws.specs.Scripts.{script_world}
use Rattle.world_laws.proofs.ProceduresStay.{scripts_procs}
use Rattle.world_laws.proofs.QuietPushes.{push_leaves_none_ready}
use Rattle.world_laws.proofs.laws_of_procedures.pushes_of_calls_leave_nothing_ready.Goals as goal

pub returns : goal.returns
returns c lines named = push_leaves_none_ready (script_world lines) (scripts_procs lines named)
