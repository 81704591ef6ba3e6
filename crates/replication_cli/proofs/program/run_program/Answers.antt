-- Of a live part the bytes are told, where no reads are.
use Rattle.std.proofs.Common.{None}
use Rattle.world_run.proofs.LiveFull.{reports_fully}
use Rattle.replication_cli.proofs.program.run_program.Goals as goal

pub returns-clause-live : goal.returns-clause-live
returns-clause-live g c json asked =
    reports_fully json c.run_program_through.result (g.S.Source.left c.args.source.now) (g.S.Source.left c.run_program_through.new.source) (g.K.Sink.taken c.args.sink.now) (g.K.Sink.taken c.run_program_through.new.sink)
    None None (c.run_program_through.ensures.live json asked)
