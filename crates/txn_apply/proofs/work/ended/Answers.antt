-- What a sound schema has.
use Rattle.rep_laws.proofs.SoundSchemas.{HasKeys-sound, KeysStandAlone-sound}
use Rattle.txn_apply.proofs.work.ended.Goals as goal

pub apply_txn-requires-clause-keys : goal.apply_txn-requires-clause-keys
apply_txn-requires-clause-keys c κs = HasKeys-sound _ c.requires.alone.sound.unbroken c.requires.alone.sound.shape

pub apply_txn-requires-clause-apart : goal.apply_txn-requires-clause-apart
apply_txn-requires-clause-apart c κs = KeysStandAlone-sound _ c.requires.alone.sound.unbroken
