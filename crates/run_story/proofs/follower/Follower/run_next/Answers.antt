-- One line too many.
use Rattle.std.proofs.Common.{arith}
use Rattle.run_story.proofs.LineSteps.{line_many}
use Rattle.run_story.proofs.follower.Follower.run_next.Goals as goal

pub returns-then-before-ge-MOST_LINES-clause-goes : goal.returns-then-before-ge-MOST_LINES-clause-goes
returns-then-before-ge-MOST_LINES-clause-goes g c =
    line_many _ c.args.line.now c.without_entries.result.outcome _ (omega (arith, c.if-before-ge-MOST_LINES.true)) c.without_entries.ensures.outcome
