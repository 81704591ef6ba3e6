use Rattle.std.proofs.Common.{[], subst, sym}
use Rattle.script_drive.specs.Lines.{whole_lines, pending, lines_after}
use Rattle.script_drive.specs.Runs.{printed}
use Rattle.script_drive.specs.Fed.{Begins}
use Rattle.script_drive.proofs.LineLemmas.{lines_after-append}
use Rattle.script_drive.proofs.RunLemmas.{printed-front}
use Rattle.script_drive.proofs.laws.front_is_printed.Goals as goal

pub returns : goal.returns
returns g c step w n read rest =
    subst (λ lines. Begins (printed step w n (whole_lines [] read)) (printed step w n lines)) (sym (lines_after-append [] read rest))
    (printed-front step w n (whole_lines [] read) (lines_after (pending [] read) rest))
