-- The law of Setup's end.
use Rattle.world_laws.proofs.AlikeMasters.{made_worlds_begin_alike}
use Rattle.convergent_worlds.proofs.laws.made_worlds_begin_alike.Goals as goal

pub returns : goal.returns
returns c = made_worlds_begin_alike
