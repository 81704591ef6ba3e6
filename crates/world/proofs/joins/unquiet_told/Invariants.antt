-- Adding up what isn't finished of each other master.
use Rattle.std.proofs.Common.{◌≡◌, ◌+◌, ◌-◌, ◌^◌, ◌≤◌, drop}
use Rattle.std.specs.Prelude.{min, sum_by}
use Rattle.site_events.specs.Quiet.{unquiet_at}
use Rattle.world.specs.Joining.{unfinished_from}
use Rattle.world.proofs.joins.unquiet_told.Given as goal

-- with those that are left they are all, up to the end of the type
abbrev pub invariant-loop-other : goal.invariant-loop-other
invariant-loop-other l = record {
  counted : min (2 ^ 64 - 1) (l.count + sum_by (unfinished_from l.site) (drop l.other-index l.sites)) ≡ min (2 ^ 64 - 1) (unquiet_at l.sites l.site);
  few : l.count ≤ 2 ^ 64 - 1;
}
