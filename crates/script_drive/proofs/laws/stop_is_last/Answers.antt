use Rattle.script_drive.proofs.RunLemmas.{printed-stopped}
use Rattle.script_drive.proofs.laws.stop_is_last.Goals as goal

pub returns : goal.returns
returns g c step w n lines more stopped = printed-stopped step w n lines more stopped
