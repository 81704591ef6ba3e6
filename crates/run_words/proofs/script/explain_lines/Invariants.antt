-- What was told and what the lines to come print is the report.
use Rattle.std.proofs.Common.{◌≡◌, ◌≤◌, ◌++◌, length}
use Rattle.script_drive.specs.Told.{is_ended_early}
use Rattle.script_drive.specs.LineBytes.{line_step}
use Rattle.world_state.specs.World.{first_world}
use Rattle.world_run.specs.Scripts.{script_step, script_report}
use Rattle.run_words.proofs.RunLemmas.{to_print, to_stop}
use Rattle.run_words.proofs.script.explain_lines.Given as goal

abbrev pub invariant-loop-left : goal.invariant-loop-left
invariant-loop-left l = record {
  few : l.number ≤ 200001;
  prints : l.told ++ to_print l.explainer l.number l.left ≡ l.fn.told ++ script_report l.script;
  stops : to_stop l.explainer l.number l.left ≡ is_ended_early (line_step script_step) first_world l.script;
}

abbrev pub decreases-loop-left : goal.decreases-loop-left
decreases-loop-left l = length l.left
