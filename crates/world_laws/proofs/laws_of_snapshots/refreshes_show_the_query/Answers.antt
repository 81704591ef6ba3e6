-- The law of refreshes.
use Rattle.world_laws.proofs.SnapshotScripts.{refreshes_show_in_scripts, refreshes_show_in_worlds}
use Rattle.world_laws.proofs.laws_of_snapshots.refreshes_show_the_query.Goals as goal

pub returns-clause-scripts : goal.returns-clause-scripts
returns-clause-scripts c = refreshes_show_in_scripts

pub returns-clause-worlds : goal.returns-clause-worlds
returns-clause-worlds c = refreshes_show_in_worlds
