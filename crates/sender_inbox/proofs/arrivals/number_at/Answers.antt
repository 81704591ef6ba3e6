use Rattle.std.proofs.Common.{ap}
use Rattle.site_state.specs.Ready.{arrival_number}
use Rattle.sender_inbox.proofs.arrivals.number_at.Goals as goal

pub returns-in-Some : goal.returns-in-Some
returns-in-Some c = ap arrival_number c.in-Some.ensures

pub returns-in-None : goal.returns-in-None
returns-in-None c = ap arrival_number c.in-None.ensures
