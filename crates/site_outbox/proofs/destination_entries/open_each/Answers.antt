use Rattle.site_outbox.specs.DestinationEntries.{destination_entry_opened}
use Rattle.rep_lists.proofs.InPlace.{changed_more}
use Rattle.site_outbox.proofs.destination_entries.open_each.Goals as goal

pub loop-outlet-preserved : goal.loop-outlet-preserved
loop-outlet-preserved c = changed_more (destination_entry_opened c.args.site.now c.args.count) c.args.outlets.now c.loop-outlet.outlets c.loop-outlet.outlet-index c.outlet-item.result c.open.new.self
    c.loop-outlet-test.true c.loop-outlet.invariant c.open.ensures
