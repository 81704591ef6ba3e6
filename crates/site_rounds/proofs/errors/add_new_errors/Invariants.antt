-- Sender by sender.
use Rattle.std.proofs.Common.{◌≡◌, ◌++◌, take, drop}
use Rattle.std.specs.Prelude.{flat_map}
use Rattle.std.specs.List.{AllByRecursion}
use Rattle.error_queue.specs.ErrorLists.{in_order}
use Rattle.error_queue.specs.ErrorQueueState.{lists_of}
use Rattle.report_text.specs.Sheet.{StandBefore}
use Rattle.site_state.specs.Errors.{errors_of}
use Rattle.site_rounds.specs.NewErrors.{text_where_new, StandsBy}
use Rattle.site_rounds.proofs.errors.add_new_errors.Given as goal

-- the errors so far and those to come are all of them, those to come stand, and what stood there is kept
abbrev pub invariant-loop-errors : goal.invariant-loop-errors
invariant-loop-errors g l =
    let x = g.J.Journalled.told_of l.site in
    let text = text_where_new (take l.count x.journal) in
    let left = in_order (lists_of (drop l.errors-index l.lists)) in
    record {
      text : l.lines.bytes ++ flat_map text left ≡ l.fn.lines.bytes ++ flat_map text (errors_of x);
      stand : AllByRecursion (StandsBy x.journal) left;
      front : StandBefore l.fn.lines.bytes l.lines.bytes;
    }
