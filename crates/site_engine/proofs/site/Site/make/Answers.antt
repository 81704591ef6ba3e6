use Rattle.std.proofs.Common.{ap}
use Rattle.site_engine.proofs.Apart.{destinations_apart}
use Rattle.site_engine.proofs.NewSite.{new_apart, new_holds}
use Rattle.site_engine.proofs.site.Site.make.Goals as goal

pub make-requires-2 : goal.make-requires-2
make-requires-2 g c =
    let schema = g.R.RowStore.schema c.args.store in
    record { apart = rw (c.requires.destinations, c.schema-2.ensures.value) (new_apart schema _ (destinations_apart schema c.requires.keyed.shape c.args.here.site)) }

pub invariant_of-result : goal.invariant_of-result
invariant_of-result g c =
    rw c.new.ensures
    (new_holds _ _ _ _ _ _ c.in_ok-notes.notes _ _ _ _ c.requires.keyed c.schema-2.ensures.sound (ap g.R.RowStore.tables c.of-base.ensures) c.requires.master (rw c.requires.senders at c.in_ok-inboxes.ensures.senders) c.in_ok-inboxes.ensures.unfinished
    (rw (c.schema-2.ensures.value, c.requires.destinations) at c.in_ok-outbox.ensures.destinations) (rw c.schema-2.ensures.value at c.in_ok-outbox.ensures.keeps) (rw c.schema.ensures.value at c.in_ok-counters.ensures)
    (rw c.requires.senders at c.in_ok-inboxes.ensures.errors) c.in_ok-notes.ensures.snapshots c.requires.within c.requires.apart)
