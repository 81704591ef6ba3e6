-- One line more is taken.
use Rattle.office.proofs.TakenLines.{taken_next}
use Rattle.office.proofs.founding.founding_of.Goals as goal

pub loop-left-preserved : goal.loop-left-preserved
loop-left-preserved c =
    taken_next c.args.text.now c.loop-left.left.now c.loop-left.number c.loop-left.founding c.loop-left.invariant c.split_line.result.0.now c.split_line.result.1.now c.split_line.ensures.line
    c.take_line.new.self c.split_line.ensures.shorter c.in_ok-take_line.ensures.taken c.in_ok-take_line.ensures.ok
