-- The law of worlds of scripts.
use Rattle.world.proofs.BuiltWorlds.{lines_keep_built}
use Rattle.world.proofs.laws.lines_keep_worlds_of_scripts.Goals as goal

pub returns : goal.returns
returns c = lines_keep_built
