use Rattle.script_drive.proofs.LineLemmas.{whole_lines-joined, pending-joined}
use Rattle.script_drive.proofs.laws.lines_are_these.Goals as goal

pub returns : goal.returns
returns c lines rest unbroken last = record {
  whole = whole_lines-joined lines rest unbroken last;
  last = pending-joined lines rest unbroken last;
}
