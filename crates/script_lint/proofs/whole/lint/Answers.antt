-- A script is looked at from the first world on.
use Rattle.script_lint.proofs.whole.lint.Goals as goal

pub returns-clause-errors : goal.returns-clause-errors
returns-clause-errors c = rw (c.in_ok-linter.ensures) at c.findings.ensures.errors

pub returns-clause-parts : goal.returns-clause-parts
returns-clause-parts c = rw (c.in_ok-linter.ensures) at c.findings.ensures.parts
