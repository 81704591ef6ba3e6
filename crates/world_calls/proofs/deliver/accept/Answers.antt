-- What a repeat leaves.
use Rattle.std.proofs.Common.{sym, ap, ◌∙◌}
use Rattle.world_calls.proofs.Repeats.{repeated_keeps}
use Rattle.world_calls.proofs.deliver.accept.Goals as goal

pub returns-then-is_repeated-clause-ok : goal.returns-then-is_repeated-clause-ok
returns-then-is_repeated-clause-ok c = sym (repeated_keeps c.args.sealed.now c.args.site.now (sym c.is_repeated.ensures ∙ c.if-is_repeated.true))
