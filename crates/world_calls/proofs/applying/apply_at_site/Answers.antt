use Rattle.std.proofs.Common.{◌-◌, ap, arith}
use Rattle.world_calls.proofs.Applied.{applied_longer, told_none, told_some}
use Rattle.world_calls.proofs.applying.apply_at_site.Goals as goal

pub overflow_sub-journal_len : goal.overflow_sub-journal_len
overflow_sub-journal_len c =
    omega (arith, c.journal_len.ensures, applied_longer c.args.pushed.from c.args.site.now c.apply_calls.new.site c.journal_len-before.result c.in_ok-apply_calls.ensures.ok c.journal_len-before.ensures)

pub returns-then-count-eq0-clause-text : goal.returns-then-count-eq0-clause-text
returns-then-count-eq0-clause-text c =
    told_none c.args.pushed.from c.args.pushed.to c.args.pushed.sent c.mark.result c.journal_len-before.result _ c.finished_by_newest-passed.result c.args.site.now c.apply_calls.new.site _ _ c.in_ok-apply_calls.ensures.ok
    c.journal_len-before.ensures (ap (λ length. length - c.journal_len-before.result) c.journal_len.ensures) c.finished_by_newest-passed.ensures c.mark.ensures c.push_calls_line.ensures.bytes c.if-count-eq0.true

pub add_new_errors-requires : goal.add_new_errors-requires
add_new_errors-requires c = applied_longer c.args.pushed.from c.args.site.now c.apply_calls.new.site c.journal_len-before.result c.in_ok-apply_calls.ensures.ok c.journal_len-before.ensures

pub returns-clause-text : goal.returns-clause-text
returns-clause-text c =
    told_some c.args.pushed.from c.args.pushed.to c.args.pushed.sent c.mark.result c.journal_len-before.result _ c.finished_by_newest-passed.result c.args.site.now c.apply_calls.new.site _ _ c.in_ok-apply_calls.ensures.ok
    c.journal_len-before.ensures (ap (λ length. length - c.journal_len-before.result) c.journal_len.ensures) c.finished_by_newest-passed.ensures c.mark.ensures c.push_calls_line.ensures.bytes _ c.in_ok-add_new_errors.ensures.ok
