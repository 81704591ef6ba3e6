use Rattle.std.proofs.Common.{sym, ◌∙◌}
use Rattle.live_streams.proofs.Quiet.{ready_where_some, quiet_where_none}
use Rattle.live_streams.proofs.turns.lowest_ready.Goals as goal

pub returns-clause-ready : goal.returns-clause-ready
returns-clause-ready g c = ready_where_some c.args.origin.now c.args.site.now c.lowest_ready-lowest.result c.lowest_ready-lowest.ensures

pub returns-clause-quiet : goal.returns-clause-quiet
returns-clause-quiet g c = λ none. quiet_where_none c.args.origin.now c.args.site.now c.arrivals_are_from_one.ensures (sym c.lowest_ready-lowest.ensures ∙ none)
