-- Adding up what isn't finished of each origin.
use Rattle.std.proofs.Common.{◌≡◌, ◌+◌, ◌-◌, ◌^◌, ◌≤◌, drop}
use Rattle.std.specs.Prelude.{min, sum_by}
use Rattle.site_state.specs.Joining.{unfinished_of, unfinished}
use Rattle.master_join.proofs.quiet.unfinished.Given as goal

-- with those that are left they are all, up to the end of the type
abbrev pub invariant-loop-given : goal.invariant-loop-given
invariant-loop-given g l = record {
  counted : min (2 ^ 64 - 1) (l.count + sum_by (unfinished_of l.site) (drop l.given-index l.last)) ≡ min (2 ^ 64 - 1) (unfinished l.last l.site);
  few : l.count ≤ 2 ^ 64 - 1;
}
