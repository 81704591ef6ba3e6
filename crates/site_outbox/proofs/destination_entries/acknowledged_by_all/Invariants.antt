-- The least of those before and of those to come.
use Rattle.std.proofs.Common.{◌≡◌, ◌≤◌, min, map, drop}
use Rattle.site_state.specs.Purges.{acknowledged_by_all}
use Rattle.site_outbox.specs.DestinationEntries.{with_mark}
use Rattle.site_outbox.proofs.destination_entries.acknowledged_by_all.Given as goal

-- the least so far and what is left decide
abbrev pub invariant-loop-outlet : goal.invariant-loop-outlet
invariant-loop-outlet l = record {
  within : l.least ≤ l.count;
  whole : min l.least (acknowledged_by_all l.count (map (with_mark l.queue.marks) (drop l.outlet-index l.outlets))) ≡ acknowledged_by_all l.count (map (with_mark l.queue.marks) l.outlets);
}
