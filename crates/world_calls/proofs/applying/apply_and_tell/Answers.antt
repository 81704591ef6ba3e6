-- The receiver is at its place.
use Rattle.world_calls.proofs.Applied.{told_there, passed_in_part, until_quiet_calls}
use Rattle.world_calls.proofs.applying.apply_and_tell.Goals as goal

pub returns-in_err-apply_at_site-clause-part : goal.returns-in_err-apply_at_site-clause-part
returns-in_err-apply_at_site-clause-part c =
    passed_in_part c.args.pushed.from c.args.pushed.to _ _ _ _ _ c.procs.view_is c.deref.ensures.value c.in-Some.ensures c.index_mut-site.ensures.value c.apply_at_site.new.site c.apply_at_site.ensures.part

pub returns-clause-ok : goal.returns-clause-ok
returns-clause-ok c =
    until_quiet_calls c.args.pushed.from c.args.pushed.to _ _ _ _ _ c.procs.view_is c.deref.ensures.value c.in-Some.ensures c.index_mut-site.ensures.value c.apply_at_site.new.site c.in_ok-apply_at_site.ensures.ok

pub returns-clause-text : goal.returns-clause-text
returns-clause-text c =
    told_there c.args.pushed.from c.args.pushed.to _ _ _ _ _ c.procs.view_is c.deref.ensures.value c.in-Some.ensures c.index_mut-site.ensures.value c.args.pushed.sent _ _ c.in_ok-apply_at_site.ensures.text

pub returns-clause-part : goal.returns-clause-part
returns-clause-part c =
    passed_in_part c.args.pushed.from c.args.pushed.to _ _ _ _ _ c.procs.view_is c.deref.ensures.value c.in-Some.ensures c.index_mut-site.ensures.value c.apply_at_site.new.site c.apply_at_site.ensures.part
