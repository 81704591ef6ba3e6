-- Counting the positions that aren't finished.
use Rattle.std.proofs.Common.{◌≡◌, ◌+◌, ◌-◌, ◌≤◌}
use Rattle.std.specs.Prelude.{count_by}
use Rattle.std.specs.List.{range_with_len}
use Rattle.site_state.specs.Joining.{unfinished_of}
use Rattle.master_join.proofs.UnfinishedPositions.{is_unfinished}
use Rattle.master_join.proofs.quiet.unfinished_of.Given as goal

-- with those that are left they are all
abbrev pub invariant-loop-position : goal.invariant-loop-position
invariant-loop-position g l = record {
  counted : l.count + count_by (is_unfinished l.site l.last) (range_with_len (l.position + 1) (l.last.number - l.position)) ≡ unfinished_of l.site l.last;
  few : l.count ≤ l.position;
}
