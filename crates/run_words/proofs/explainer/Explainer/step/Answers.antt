-- A command that was read isn't told to be malformed.
use Rattle.std.proofs.Common.{sym, ap, ◌∙◌}
use Rattle.world_state.specs.Steps.{step_refused}
use Rattle.script_steps.specs.Coming.{said_of}
use Rattle.run_words.proofs.RunLemmas.{no_rule}
use Rattle.run_words.proofs.explainer.Explainer.step.Goals as goal

pub unreachable-requires : goal.unreachable-requires
unreachable-requires c =
    no_rule c.args.number c.in-Malformed.field-0.rule (step_refused c.args.number c.args.command c.self.inside.steps)
    (sym (ap (said_of c.args.number) c.in-Malformed.is) ∙ c.in_ok-command.ensures.said)
