use Rattle.std.proofs.Common.{rules}
use Rattle.site_gate.proofs.Sharing.{meets}
use Rattle.site_gate.proofs.gate.SiteGate.meet.Goals as goal

pub load-requires : goal.load-requires
load-requires g c = (search rules, search rules, meets g.T.Turns.history g.T.Turns.opening _ _ c.args.pass.now.seat.me)
