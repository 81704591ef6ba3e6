-- The line is its command.
use Rattle.office.proofs.StoppedLines.{line_stops}
use Rattle.office.proofs.founding.Founding.take_line.Goals as goal

pub returns-in-Ok-clause-err : goal.returns-in-Ok-clause-err
returns-in-Ok-clause-err c = line_stops c.take_command.result c.args.number c.args.line.now c.in-Ok.command c.args.self.now c.in-Ok.ensures.read c.take_command.ensures.err
