-- Testing master by master.
use Rattle.std.proofs.Common.{drop}
use Rattle.std.specs.Prelude.{◌↔◌}
use Rattle.std.specs.List.{AllByRecursion}
use Rattle.packet_code.specs.Limits.{IsPastEntry}
use Rattle.packet_code.proofs.limits.is_each_past_entry.Given as goal

-- what is left decides
abbrev pub invariant-loop-seen : goal.invariant-loop-seen
invariant-loop-seen l = AllByRecursion (IsPastEntry l.from) l.past ↔ AllByRecursion (IsPastEntry l.from) (drop l.seen-index l.past)
