-- From the first line on.
use Rattle.script_steps.specs.Lines.{lines_of}
use Rattle.script_lint.specs.Checking.{nothing_checked}
use Rattle.std.proofs.Common.{refl}
use Rattle.script_lint.proofs.Ends.{stops_where_told}
use Rattle.script_lint.proofs.laws.malformed_lines_end_runs.Goals as goal

pub returns : goal.returns
returns c script = stops_where_told 1 (lines_of script) nothing_checked refl
