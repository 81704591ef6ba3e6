-- The law of Setup's end.
use Rattle.world_laws.proofs.SnapshotStarting.{made_snapshot_start, made_log_start}
use Rattle.world_laws.proofs.laws_of_snapshots.made_worlds_are_starts.Goals as goal

pub returns-clause-snapshots : goal.returns-clause-snapshots
returns-clause-snapshots c = made_snapshot_start

pub returns-clause-logs : goal.returns-clause-logs
returns-clause-logs c = made_log_start
