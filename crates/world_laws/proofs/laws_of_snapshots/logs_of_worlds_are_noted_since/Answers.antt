-- The law of logs.
use Rattle.world_laws.proofs.SnapshotScripts.{noted_since_in_scripts, noted_since_in_worlds}
use Rattle.world_laws.proofs.laws_of_snapshots.logs_of_worlds_are_noted_since.Goals as goal

pub returns-clause-scripts : goal.returns-clause-scripts
returns-clause-scripts c = noted_since_in_scripts

pub returns-clause-worlds : goal.returns-clause-worlds
returns-clause-worlds c = noted_since_in_worlds
