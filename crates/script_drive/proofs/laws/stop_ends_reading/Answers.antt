use Rattle.script_drive.proofs.StopLemmas.{stop_ends_reading}
use Rattle.script_drive.proofs.laws.stop_ends_reading.Goals as goal

pub returns : goal.returns
returns g c step start most read more left written stopped = stop_ends_reading step start most read more left written stopped
