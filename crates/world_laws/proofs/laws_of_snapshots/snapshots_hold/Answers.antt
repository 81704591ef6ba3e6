-- All that holds of every world.
use Rattle.world_laws.proofs.SnapshotScripts.{snapshots_hold_in_scripts, snapshots_hold_in_worlds}
use Rattle.world_laws.proofs.laws_of_snapshots.snapshots_hold.Goals as goal

pub returns-clause-scripts : goal.returns-clause-scripts
returns-clause-scripts c = snapshots_hold_in_scripts

pub returns-clause-worlds : goal.returns-clause-worlds
returns-clause-worlds c = snapshots_hold_in_worlds
