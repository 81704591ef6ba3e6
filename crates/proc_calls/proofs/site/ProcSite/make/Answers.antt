use Rattle.proc_calls.proofs.Apart.{names_apart}
use Rattle.proc_calls.proofs.NewSite.{new_state, new_holds}
use Rattle.proc_calls.proofs.site.ProcSite.make.Goals as goal

pub make-requires-2 : goal.make-requires-2
make-requires-2 c = names_apart c.args.masters.now c.requires.distinct

pub invariant_of-result : goal.invariant_of-result
invariant_of-result c =
    rw c.new.ensures
    (new_holds c.args.schema _ c.args.procedures c.args.me c.args.masters.now _ _ c.in_ok-store.ensures.schema c.in_ok-inboxes.ensures.senders c.in_ok-outbox.ensures.deferred c.in_ok-outbox.ensures.marks
    _ _ c.requires.keyed c.requires.procedures c.requires.distinct c.in_ok-store.ensures.tables c.in_ok-inboxes.ensures.unfinished c.in_ok-outbox.ensures.keeps c.in_ok-inboxes.ensures.errors)

pub returns : goal.returns
returns c =
    rw c.new.ensures (new_state c.args.schema _ c.args.procedures c.args.me c.args.masters.now _ c.in_ok-outbox.outbox c.in_ok-store.ensures.schema c.in_ok-inboxes.ensures.senders c.in_ok-outbox.ensures.deferred c.in_ok-outbox.ensures.marks)
