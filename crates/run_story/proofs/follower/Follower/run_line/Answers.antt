-- A line that is passed over, one that is run, and one that breaks a rule.
use Rattle.std.proofs.Common.{ap, ◌∙◌, Ok}
use Rattle.run_story.specs.Running.{engine_part, stand_of, stand_in}
use Rattle.run_story.proofs.LineSteps.{line_answers, line_passes, line_breaks}
use Rattle.run_story.proofs.follower.Follower.run_line.Goals as goal

pub returns-then-is_nothing-clause-goes : goal.returns-then-is_nothing-clause-goes
returns-then-is_nothing-clause-goes g c =
    rw (← c.self.view_is)
    (line_passes c.args.number c.args.line.now c.without_entries.result.outcome c.self.inside.world.world (engine_part c.self.inside.part) c.requires.few
    (c.in-Ok.ensures.read ∙ ap Ok (c.is_nothing.ensures c.if-is_nothing.true)) c.without_entries.ensures.outcome)

pub returns-else-is_nothing-clause-goes : goal.returns-else-is_nothing-clause-goes
returns-else-is_nothing-clause-goes g c =
    rw (← c.self.view_is)
    (line_answers (λ answer. answer.outcome) c.run.result c.args.number c.args.line.now _ (stand_in c.self.inside.world (engine_part c.self.inside.part)) (stand_of c.run.new.self) c.run.ensures.goes
    c.run.ensures.said c.requires.few c.in-Ok.ensures.read)

pub returns-in-Err-Rule-clause-goes : goal.returns-in-Err-Rule-clause-goes
returns-in-Err-Rule-clause-goes g c =
    rw (← c.self.view_is)
    (line_breaks c.args.number c.args.line.now c.in-Err-Rule.rule c.without_entries-in-Err-Rule.result.outcome _ c.requires.few (rw (c.in-Err-Rule.field-0-is) at c.in-Err-Rule.ensures.read)
    c.without_entries-in-Err-Rule.ensures.outcome)
