-- What a repeat leaves.
use Rattle.std.proofs.Common.{sym, ◌∙◌}
use Rattle.world_push.proofs.Repeats.{repeat_keeps}
use Rattle.world_push.proofs.deliver.accept.Goals as goal

pub returns-then-is_repeat-clause-ok : goal.returns-then-is_repeat-clause-ok
returns-then-is_repeat-clause-ok c = sym (repeat_keeps c.args.sealed.now c.args.site.now (sym c.is_repeat.ensures ∙ c.if-is_repeat.true))
