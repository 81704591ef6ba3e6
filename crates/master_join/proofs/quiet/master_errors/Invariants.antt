-- Counting the errors of masters' transactions.
use Rattle.std.proofs.Common.{◌≡◌, ◌+◌, ◌≤◌, drop}
use Rattle.std.specs.Prelude.{count_by}
use Rattle.error_queue.specs.ErrorLists.{in_order}
use Rattle.site_state.specs.Joining.{master_errors}
use Rattle.master_join.proofs.UnfinishedPositions.{is_of_master}
use Rattle.master_join.proofs.quiet.master_errors.Given as goal

-- with those that are left they are all
abbrev pub invariant-loop-place : goal.invariant-loop-place
invariant-loop-place g l = record {
  counted : l.count + count_by (is_of_master l.site) (drop l.place (in_order l.errors.lists)) ≡ master_errors l.site;
  few : l.count ≤ l.place;
}
