-- A run that isn't Usage ends as done, or for one of the causes that are told.
use Rattle.std.proofs.Common.{◌≡◌, ◌≢◌, ℕ, List, refl, inl, inr}
use Rattle.std.specs.Prelude.{Option}
use Rattle.rep_io.specs.Faults.{Rose}
use Rattle.script_drive.specs.Told.{Tells}
use Rattle.script_drive.specs.declared.status.Status.{Status}
use Rattle.script_drive.specs.declared.status.Status.TheVariants.{Done, Malformed, ReadFault, WriteFault, Memory, Usage}
use Rattle.script_drive.specs.LineBytes.{line_step}
use Rattle.script_drive.specs.Outcome.{Told}
use Rattle.world_state.specs.World.{first_world}
use Rattle.world_run.specs.Scripts.{script_step}
use Rattle.world_run.specs.Completeness.{RunsToItsEnd}

pub runs_to_its_end : (left left' taken taken' : Option (List ℕ)) (read read' wrote wrote' : ℕ) (s : Status) → Tells (Told (line_step script_step) first_world s) left left' taken taken'
    → (s ≡ ReadFault → Rose read read') → (s ≡ WriteFault → Rose wrote wrote') → s ≢ Usage → RunsToItsEnd left taken read read' wrote wrote' s
runs_to_its_end left left' taken taken' read read' wrote wrote' Done tells reads writes ran script earlier is_left is_taken going unread unwritten = inl refl
runs_to_its_end left left' taken taken' read read' wrote wrote' Malformed tells reads writes ran script earlier is_left is_taken going unread unwritten =
    let told = tells script earlier is_left is_taken in absurd (cc (going, told.4.1))
runs_to_its_end left left' taken taken' read read' wrote wrote' ReadFault tells reads writes ran script earlier is_left is_taken going unread unwritten = absurd (unread (reads refl))
runs_to_its_end left left' taken taken' read read' wrote wrote' WriteFault tells reads writes ran script earlier is_left is_taken going unread unwritten = absurd (unwritten (writes refl))
runs_to_its_end left left' taken taken' read read' wrote wrote' Memory tells reads writes ran script earlier is_left is_taken going unread unwritten = inr refl
runs_to_its_end left left' taken taken' read read' wrote wrote' Usage tells reads writes ran script earlier is_left is_taken going unread unwritten = absurd (ran refl)
