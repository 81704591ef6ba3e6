-- Gathering the other names.
use Rattle.std.proofs.Common.{◌≡◌, ◌++◌, drop}
use Rattle.site_events.specs.Events.{without}
use Rattle.site_making.proofs.procs.without.Given as goal

-- the others so far, and those among the names to come
abbrev pub invariant-loop-other : goal.invariant-loop-other
invariant-loop-other l = without l.name l.names ≡ l.others ++ without l.name (drop l.other-index l.names)
