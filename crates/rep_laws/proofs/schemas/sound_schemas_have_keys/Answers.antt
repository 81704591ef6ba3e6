use Rattle.rep_laws.proofs.SoundSchemas.{HasKeys-sound, KeysStandAlone-sound}
use Rattle.rep_laws.proofs.schemas.sound_schemas_have_keys.Goals as goal

pub returns : goal.returns
returns c schema shape sound = (HasKeys-sound schema sound shape, KeysStandAlone-sound schema sound)
