-- The law of what scripts declare.
use Rattle.world_laws.proofs.SnapshotScripts.{scripts_declare_well}
use Rattle.world_laws.proofs.laws_of_snapshots.scripts_declare_well.Goals as goal

pub returns : goal.returns
returns c = scripts_declare_well
