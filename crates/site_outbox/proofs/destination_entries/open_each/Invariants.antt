-- The outlets up to the place are opened.
use Rattle.std.proofs.Common.{◌≡◌, ◌++◌, map, take, drop}
use Rattle.site_outbox.specs.DestinationEntries.{destination_entry_opened}
use Rattle.site_outbox.proofs.destination_entries.open_each.Given as goal

abbrev pub invariant-loop-outlet : goal.invariant-loop-outlet
invariant-loop-outlet l = l.outlets ≡ map (destination_entry_opened l.site l.count) (take l.outlet-index l.initial.outlets) ++ drop l.outlet-index l.initial.outlets
