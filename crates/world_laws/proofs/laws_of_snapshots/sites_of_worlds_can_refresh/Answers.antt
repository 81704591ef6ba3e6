-- The law of what a refresh goes by.
use Rattle.world_laws.proofs.SnapshotScripts.{can_refresh_in_scripts, can_refresh_in_worlds}
use Rattle.world_laws.proofs.laws_of_snapshots.sites_of_worlds_can_refresh.Goals as goal

pub returns-clause-scripts : goal.returns-clause-scripts
returns-clause-scripts c = can_refresh_in_scripts

pub returns-clause-worlds : goal.returns-clause-worlds
returns-clause-worlds c = can_refresh_in_worlds
