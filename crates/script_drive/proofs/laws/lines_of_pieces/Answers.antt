use Rattle.script_drive.proofs.LineLemmas.{lines_after-append}
use Rattle.script_drive.proofs.laws.lines_of_pieces.Goals as goal

pub returns : goal.returns
returns c front first second = lines_after-append front first second
