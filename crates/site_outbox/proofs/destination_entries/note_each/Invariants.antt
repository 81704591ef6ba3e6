-- Noting one outlet after the other.
use Rattle.std.proofs.Common.{◌≡◌, ◌-◌, ◌≤◌, length, map, drop}
use Rattle.std.specs.Prelude.{vec_len, vec_capacity}
use Rattle.std.specs.List.{AllByRecursion}
use Rattle.site_outbox.specs.DestinationEntries.{EntriesApart}
use Rattle.site_outbox.specs.Noting.{TokenStreams, AreNoted, Waits}
use Rattle.site_outbox.proofs.Noting.{NotedSoFar}
use Rattle.site_outbox.proofs.destination_entries.note_each.Given as goal

-- those to come are apart and wait, there is room for them, and with what is noted so far they make the whole
abbrev pub invariant-loop-outlet : goal.invariant-loop-outlet
invariant-loop-outlet l = record {
  apart : EntriesApart (drop l.outlet-index l.outlets);
  waiting : AllByRecursion (Waits l.index.streams (length l.tokens.list)) (drop l.outlet-index l.outlets);
  room : length (drop l.outlet-index l.outlets) ≤ vec_capacity l.to - vec_len l.to;
  destinations : map (λ s. s.kept.site) l.index.streams ≡ map (λ s. s.kept.site) l.initial.index.streams;
  notes : (streams : TokenStreams) → AreNoted l.initial.index.streams streams → NotedSoFar l.outlets (drop l.outlet-index l.outlets) l.tokens.list streams l.index.streams l.to.items;
}
