use Rattle.local_txn.proofs.SoundFilling.{FillsFreely-sound}
use Rattle.local_txn.proofs.laws.sound_schemas_fill_freely.Goals as goal

pub returns : goal.returns
returns c = FillsFreely-sound
