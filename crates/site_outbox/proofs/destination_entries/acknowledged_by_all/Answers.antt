use Rattle.std.proofs.Common.{map, arith}
use Rattle.site_outbox.specs.DestinationEntries.{with_mark}
use Rattle.site_outbox.proofs.OutboxSteps.{acknowledged_by_all-most}
use Rattle.site_outbox.proofs.destination_entries.acknowledged_by_all.Goals as goal

pub loop-outlet-init : goal.loop-outlet-init
loop-outlet-init c = record { within = omega arith; whole = omega (arith, acknowledged_by_all-most c.args.count (map (with_mark c.args.queue.now.marks) c.args.outlets.now)) }
