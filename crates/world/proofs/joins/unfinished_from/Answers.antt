-- What isn't finished of one other master.
use Rattle.std.proofs.Common.{sym, ◌∙◌}
use Rattle.world.proofs.Quiet.{counts_from, counts_none}
use Rattle.world.proofs.joins.unfinished_from.Goals as goal

pub returns-then-is_other_master : goal.returns-then-is_other_master
returns-then-is_other_master c =
    counts_from c.args.site.now c.args.other.now c.name-name.result.now c.last_position_to-last.result c.unfinished_of.result c.name-name.ensures c.last_position_to-last.ensures
    (sym c.is_other_master.ensures ∙ c.if-is_other_master.true) c.unfinished_of.ensures

pub returns-else-is_other_master : goal.returns-else-is_other_master
returns-else-is_other_master c = counts_none c.args.site.now c.args.other.now c.name-name.result.now c.name-name.ensures (sym c.is_other_master.ensures ∙ c.if-is_other_master.false)
