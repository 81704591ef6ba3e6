-- A line that is none of the three is refused.
use Rattle.std.proofs.Common.{refl}
use Rattle.run_story.proofs.Steps.{taken_other}
use Rattle.run_story.proofs.part.OpenPart.take.Goals as goal

pub returns-in_default : goal.returns-in_default
returns-in_default c = (taken_other c.args.number c.args.command.now c.args.self.now c.in_default.not-Nothing c.in_default.not-Statement c.in_default.not-Commit, refl)
