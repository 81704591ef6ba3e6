-- The bytes, where the reader tells no reads.
use Rattle.std.proofs.Common.{None}
use Rattle.world_run.proofs.LiveFull.{reports_fully}
use Rattle.world_run.proofs.live_run.run_live.Goals as goal

pub returns-clause-told : goal.returns-clause-told
returns-clause-told g c =
    reports_fully c.args.json c.run_live_through.result (g.S.Source.left c.args.source.now) (g.S.Source.left c.run_live_through.new.source) (g.K.Sink.taken c.args.sink.now) (g.K.Sink.taken c.run_live_through.new.sink)
    None None c.run_live_through.ensures.told
