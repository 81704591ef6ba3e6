use Rattle.sender_inbox.proofs.Above.{first_above-there, first_above-gap}
use Rattle.sender_inbox.proofs.arrivals.first_above.Goals as goal

pub returns-in-Ok : goal.returns-in-Ok
returns-in-Ok c = first_above-there c.args.number c.args.arrived.now c.in-Ok.place c.requires c.in-Ok.ensures.found

pub returns-in-Err : goal.returns-in-Err
returns-in-Err c = first_above-gap c.args.number c.args.arrived.now c.in-Err.place c.in-Err.ensures.absent
