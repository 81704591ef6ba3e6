-- A run of a script with a live part that isn't Usage ends as done, or for one of the causes that are told.
use Rattle.std.proofs.Common.{◌≡◌, ◌≢◌, ℕ, List, refl, inl, inr}
use Rattle.std.specs.Prelude.{Bool, Option}
use Rattle.rep_io.specs.Faults.{Rose}
use Rattle.script_drive.specs.declared.status.Status.{Status}
use Rattle.script_drive.specs.declared.status.Status.TheVariants.{Done, Malformed, ReadFault, WriteFault, Memory, Usage}
use Rattle.world_run.specs.LiveScripts.{ReportsFully, LiveRunsToItsEnd}

pub live_runs_to_its_end : (json : Bool) (left left' taken taken' : Option (List ℕ)) (read read' wrote wrote' : ℕ) (s : Status) → ReportsFully json s left left' taken taken'
    → (s ≡ ReadFault → Rose read read') → (s ≡ WriteFault → Rose wrote wrote') → s ≢ Usage → LiveRunsToItsEnd json left taken read read' wrote wrote' s
live_runs_to_its_end json left left' taken taken' read read' wrote wrote' Done tells reads writes ran script earlier is_left is_taken going unread unwritten = inl refl
live_runs_to_its_end json left left' taken taken' read read' wrote wrote' Malformed tells reads writes ran script earlier is_left is_taken going unread unwritten =
    let told = tells script earlier is_left is_taken in
    let early = told.4.2.1 in
    absurd (cc (going told.4.0, early))
live_runs_to_its_end json left left' taken taken' read read' wrote wrote' ReadFault tells reads writes ran script earlier is_left is_taken going unread unwritten = absurd (unread (reads refl))
live_runs_to_its_end json left left' taken taken' read read' wrote wrote' WriteFault tells reads writes ran script earlier is_left is_taken going unread unwritten = absurd (unwritten (writes refl))
live_runs_to_its_end json left left' taken taken' read read' wrote wrote' Memory tells reads writes ran script earlier is_left is_taken going unread unwritten = inr refl
live_runs_to_its_end json left left' taken taken' read read' wrote wrote' Usage tells reads writes ran script earlier is_left is_taken going unread unwritten = absurd (ran refl)
