use Rattle.std.proofs.Common.{ap, ◌∙◌}
use Rattle.site_gate.proofs.Entering.{starts}
use Rattle.site_gate.proofs.gate.SiteGate.make.Goals as goal

pub new-requires : goal.new-requires
new-requires g c =
    rw (c.push_reserved.ensures.items, c.in-Ok.ensures.items, ← c.of-first.ensures)
    (starts g.T.Turns.history g.T.Turns.opening c.of-first.result.value (ap g.T.Turns.history c.of-first.ensures ∙ c.requires))
