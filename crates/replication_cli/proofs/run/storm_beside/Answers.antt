use Rattle.std.proofs.Common.{ap}
use Rattle.replication_cli.specs.Runs.{Running}
use Rattle.replication_cli.proofs.run.storm_beside.Goals as goal

-- its first command has number 1
pub storm-requires-clause-first : goal.storm-requires-clause-first
storm-requires-clause-first g c κs within = ap (λ (r : Running). r.number) c.in_ok-run.ensures
