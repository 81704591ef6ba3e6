use Rattle.std.proofs.Common.{sym, ◌∙◌}
use Rattle.command_line.specs.Words.{asked_by}
use Rattle.command_line.proofs.FormLemmas.{asks_nothing, asks_something}
use Rattle.command_line.proofs.words.asked_by.Goals as goal

pub returns-then-not-is_form-clause-value : goal.returns-then-not-is_form-clause-value
returns-then-not-is_form-clause-value c = asks_nothing (asked_by c.args.words.now) (sym c.is_form.ensures ∙ c.if-not-is_form.true)

pub returns-clause-memory : goal.returns-clause-memory
returns-clause-memory c = asks_something (asked_by c.args.words.now) c.read.result (sym c.is_form.ensures ∙ c.if-not-is_form.false)
