-- The law of pending keys.
use Rattle.world_laws.proofs.SnapshotScripts.{keys_once_in_scripts, keys_once_in_worlds}
use Rattle.world_laws.proofs.laws_of_snapshots.keys_of_worlds_come_once.Goals as goal

pub returns-clause-scripts : goal.returns-clause-scripts
returns-clause-scripts c = keys_once_in_scripts

pub returns-clause-worlds : goal.returns-clause-worlds
returns-clause-worlds c = keys_once_in_worlds
