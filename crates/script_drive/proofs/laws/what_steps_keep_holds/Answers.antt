use Rattle.script_drive.proofs.StepInvariants.{HoldsThroughout-kept}
use Rattle.script_drive.proofs.laws.what_steps_keep_holds.Goals as goal

pub returns : goal.returns
returns g c = HoldsThroughout-kept
