-- How a run of the program ends.
use Rattle.std.specs.Prelude.{◌≡◌, ◌≢◌, ◌⊎◌, ℕ, List, [], Option, true, false}
use Rattle.std.specs.Io.KnownBytes.{Consumes, IsAtEnd}
use Rattle.script_drive.specs.declared.status.Status.{Status}
use Rattle.script_drive.specs.declared.status.Status.TheVariants as status
use Rattle.script_drive.specs.LineBytes.{line_step}
use Rattle.script_drive.specs.Told.{is_ended_early}
use Rattle.world_state.specs.World.{first_world}
use Rattle.world_run.specs.Scripts.{script_step}
use Rattle.script_lint.specs.Checking.{script_checked}

-- where they are told, these bytes are all that were left, and no more are
pub record ReadsAll (before after : Option (List ℕ)) (bytes : List ℕ) : Type 0 where
  pub front : Consumes before after bytes
  pub end : IsAtEnd after

-- the status of a run that wasn't hindered from outside
abbrev pub EndsRun : Status → Type 0
EndsRun ended = (ended ≡ status.Done) ⊎ (ended ≡ status.Malformed)

-- Done where the engine does each line of the script, Malformed where there is one that it doesn't, and nothing else
abbrev pub LintEnds : List ℕ → Status → Type 0
LintEnds script status.Done = (script_checked script).answers ≡ []
LintEnds script status.Malformed = (script_checked script).answers ≢ []
LintEnds script other = ⊥

-- Done where a run comes to the script's end, Malformed where a line ends it, and nothing else
abbrev pub RunEnds : List ℕ → Status → Type 0
RunEnds script status.Done = is_ended_early (line_step script_step) first_world script ≡ false
RunEnds script status.Malformed = is_ended_early (line_step script_step) first_world script ≡ true
RunEnds script other = ⊥

-- a status says so of all that was read; one of faults, of want of memory and of words says nothing of a script
abbrev pub SaysOfAll : (List ℕ → Status → Type 0) → Option (List ℕ) → Option (List ℕ) → Status → Type 0
SaysOfAll Says before after status.Done = (script : List ℕ) × ReadsAll before after script × Says script status.Done
SaysOfAll Says before after status.Malformed = (script : List ℕ) × ReadsAll before after script × Says script status.Malformed
SaysOfAll Says before after other = Unit {0}

-- so it is with what was read
abbrev pub LintReads : Option (List ℕ) → Option (List ℕ) → Status → Type 0
LintReads before after ended = SaysOfAll LintEnds before after ended

abbrev pub RunReads : Option (List ℕ) → Option (List ℕ) → Status → Type 0
RunReads before after ended = SaysOfAll RunEnds before after ended
