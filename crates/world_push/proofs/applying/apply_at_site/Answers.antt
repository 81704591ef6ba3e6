use Rattle.site_rounds.proofs.Growing.{until_quiet-longer}
use Rattle.world_push.proofs.Applied.{told-none, count_is}
use Rattle.world_push.proofs.applying.apply_at_site.Goals as goal

pub returns-then-count-eq0-clause-text : goal.returns-then-count-eq0-clause-text
returns-then-count-eq0-clause-text g c =
    told-none c.args.pushed.from c.args.pushed.to _ _ _ _ _ _ _ _ _ c.in-Ok.ensures.ok c.journal_len-before.ensures c.in-Ok.ensures.count.0 c.in-Ok.ensures.count.1 c.mark.ensures c.push_line.ensures.bytes c.if-count-eq0.true

pub returns-then-count-eq0-clause-count : goal.returns-then-count-eq0-clause-count
returns-then-count-eq0-clause-count g c = count_is c.args.pushed.from _ _ _ _ c.args.site c.in-Ok.made.0 c.in-Ok.ensures.ok c.in-Ok.ensures.count.0 c.in-Ok.ensures.count.1 c.mark.ensures

pub add_new_errors-requires : goal.add_new_errors-requires
add_new_errors-requires g c = until_quiet-longer c.args.pushed.from c.args.site c.in-Ok.made.0 c.journal_len-before.result c.in-Ok.ensures.ok c.journal_len-before.ensures
