-- When a script is run to its end.
use Rattle.std.specs.Prelude.{◌≡◌, ◌⊎◌, ℕ, List, false, Option, Some}
use Rattle.rep_io.specs.Faults.{Rose}
use Rattle.script_drive.specs.Told.{is_ended_early}
use Rattle.script_drive.specs.declared.status.Status.{Status}
use Rattle.script_drive.specs.declared.status.Status.TheVariants.{Done, Memory}
use Rattle.script_drive.specs.LineBytes.{line_step}
use Rattle.world_state.specs.World.{first_world}
use Rattle.world_run.specs.Scripts.{script_step}

-- where source and sink tell their bytes, no line of the script is malformed and neither had a fault, the run is done or
-- there was no memory
abbrev pub RunsToItsEnd : Option (List ℕ) → Option (List ℕ) → ℕ → ℕ → ℕ → ℕ → Status → Type 0
RunsToItsEnd left taken read read' wrote wrote' status = (script earlier : List ℕ) → left ≡ Some script → taken ≡ Some earlier
    → is_ended_early (line_step script_step) first_world script ≡ false → ¬ Rose read read' → ¬ Rose wrote wrote' → (status ≡ Done) ⊎ (status ≡ Memory)
