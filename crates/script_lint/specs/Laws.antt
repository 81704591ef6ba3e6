-- What the answers tell of a run of the script.
use Rattle.std.specs.Prelude.{◌≡◌, ℕ, Bool, true, false, List}
use Rattle.std.specs.List.{list_any}
use Rattle.script_drive.specs.Told.{is_ended_early}
use Rattle.script_drive.specs.LineBytes.{line_step}
use Rattle.world_state.specs.World.{first_world}
use Rattle.world_run.specs.Scripts.{script_step}
use Rattle.script_lint.specs.Checking.{script_checked}
use Rattle.script_steps.specs.declared.answer.Answer.{Answer}
use Rattle.script_steps.specs.declared.answer.Verdict.{Verdict}
use Rattle.script_steps.specs.declared.answer.Verdict.TheVariants as verdict

abbrev pub is_malformed_so : Verdict → Bool
is_malformed_so (verdict.Malformed rule) = true
is_malformed_so (verdict.Refused why) = false

-- an answer is that a line is malformed
abbrev pub is_malformed : Answer → Bool
is_malformed said = is_malformed_so said.verdict

-- a run of a script ends early exactly where one of the answers is that a line is malformed
abbrev pub MalformedLinesEndRuns : Type 0
MalformedLinesEndRuns = (script : List ℕ) → is_ended_early (line_step script_step) first_world script ≡ list_any is_malformed (script_checked script).answers
