-- Gathering how much each master has queued.
use Rattle.std.proofs.Common.{◌≡◌, ◌++◌, drop}
use Rattle.site_events.specs.Joins.{queue_counts}
use Rattle.world_commands.proofs.joins.queue_counts.Given as goal

-- the masters so far, and those of the sites to come
abbrev pub invariant-loop-other : goal.invariant-loop-other
invariant-loop-other l = queue_counts l.sites ≡ l.counts ++ queue_counts (drop l.other-index l.sites)
