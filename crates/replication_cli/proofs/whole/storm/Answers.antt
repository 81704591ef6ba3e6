-- A front of the summary was written.
use Rattle.std.proofs.Common.{sym, ◌∙◌}
use Rattle.replication_cli.specs.Summary.{storm_summary}
use Rattle.replication_cli.proofs.Fronts.{front_written}
use Rattle.replication_cli.proofs.whole.storm.Goals as goal

pub returns-in_default-offer-clause-told : goal.returns-in_default-offer-clause-told
returns-in_default-offer-clause-told g c =
    front_written (g.K.Sink.taken c.args.sink.now) (g.K.Sink.taken c.offer.new.sink) c.bytes.result.now (storm_summary c.args.seed c.args.count)
    c.in_default-offer.ensures.front (sym (c.bytes.ensures ∙ c.in-Ok.ensures))
