-- Opening a site to one after the other.
use Rattle.std.proofs.Common.{◌≡◌, drop}
use Rattle.site_events.specs.Joins.{open_to_each}
use Rattle.world_commands.proofs.joins.open_to_each.Given as goal

-- once it is open to those that are left it is open to all
abbrev pub invariant-loop-other : goal.invariant-loop-other
invariant-loop-other l = open_to_each (drop l.other-index l.others) l.site ≡ open_to_each l.others l.fn.site
