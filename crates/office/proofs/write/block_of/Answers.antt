-- One line more is a statement, or passed over.
use Rattle.std.proofs.Common.{◌++◌, ap, ◌∙◌}
use Rattle.std.specs.Option.{option_to_list}
use Rattle.office.proofs.StatedLines.{stated_next}
use Rattle.office.proofs.write.block_of.Goals as goal

pub loop-left-preserved : goal.loop-left-preserved
loop-left-preserved c =
    let pushed = c.in_ok-push_statement.ensures.ok in
    stated_next c.args.text.now c.loop-left.left.now c.loop-left.number c.loop-left.statements.items c.loop-left.invariant c.split_line.result.0.now c.split_line.result.1.now c.split_line.ensures.line
    c.push_statement.new.statements.items c.split_line.ensures.shorter c.in_ok-statement.ensures.taken
    (pushed ∙ ap (λ o. c.loop-left.statements.items ++ option_to_list o) c.in_ok-statement.ensures.ok)
