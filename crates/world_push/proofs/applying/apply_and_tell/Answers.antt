-- The receiver is taken out, applies what came until all is quiet, and is put in again.
use Rattle.std.proofs.lemmas.Result.{on_ok_weaker, IfOk-weaker}
use Rattle.world_push.proofs.Applied.{told-there, counted-there, applying_in_part, until_quiet_world}
use Rattle.world_push.proofs.applying.apply_and_tell.Goals as goal

pub returns-clause-ok : goal.returns-clause-ok
returns-clause-ok g c =
    rw (← c.parts.view_is) (on_ok_weaker c.apply_at_site-site.result.1
    (until_quiet_world c.args.pushed.from c.args.pushed.to _ c.in-Some.place (rw c.deref.ensures.value at c.in-Some.ensures) c.remove-site.result c.remove-site.ensures.value _ _ _ c.remove-site.ensures.items c.put_back.ensures)
    c.apply_at_site-site.ensures.ok)

pub returns-clause-text : goal.returns-clause-text
returns-clause-text g c =
    rw (← c.parts.view_is) (on_ok_weaker c.apply_at_site-site.result.1
    (told-there c.args.pushed.from c.args.pushed.to _ c.in-Some.place (rw c.deref.ensures.value at c.in-Some.ensures) c.remove-site.result c.remove-site.ensures.value c.args.pushed.to c.args.pushed.sent c.args.lines.now.bytes c.apply_at_site-site.new.lines.bytes)
    c.apply_at_site-site.ensures.text)

pub returns-clause-count : goal.returns-clause-count
returns-clause-count g c =
    rw (← c.parts.view_is) (IfOk-weaker c.apply_at_site-site.result.1 _ _
    (counted-there c.args.pushed.from c.args.pushed.to _ c.in-Some.place (rw c.deref.ensures.value at c.in-Some.ensures) c.remove-site.result c.remove-site.ensures.value c.args.pushed.sent)
    c.apply_at_site-site.ensures.count)

pub returns-clause-part : goal.returns-clause-part
returns-clause-part g c =
    rw (← c.parts.view_is)
    (applying_in_part c.args.pushed.from c.args.pushed.to _ c.in-Some.place (rw c.deref.ensures.value at c.in-Some.ensures) c.remove-site.result c.remove-site.ensures.value _ _ _ c.remove-site.ensures.items c.put_back.ensures c.apply_at_site-site.ensures.applying)
