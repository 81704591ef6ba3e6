use Rattle.std.proofs.Common.{sym}
use Rattle.rep_declare.proofs.PriorityNames.{with_priority-there, with_priority-new}
use Rattle.rep_declare.proofs.additions.absent_priority.Goals as goal

pub returns-in-Some-clause-none : goal.returns-in-Some-clause-none
returns-in-Some-clause-none c = λ is. with_priority-there c.args.name.now c.args.groups.now c.in-Some._found.now (sym c.in-Some.ensures)

pub returns-in-None-clause-some : goal.returns-in-None-clause-some
returns-in-None-clause-some c = with_priority-new c.args.name.now c.args.groups.now (sym c.in-None.ensures)
