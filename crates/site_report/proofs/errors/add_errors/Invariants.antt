-- Adding errors one by one.
use Rattle.std.proofs.Common.{◌≡◌, ◌++◌, drop}
use Rattle.std.specs.Prelude.{flat_map}
use Rattle.error_queue.specs.ErrorLists.{in_order}
use Rattle.report_text.specs.Sheet.{StandBefore}
use Rattle.site_report.specs.Shows.{standing_text, errors_text}
use Rattle.site_report.proofs.errors.add_errors.Given as goal

-- the errors so far and those to come are all of them, and what stood there is kept
abbrev pub invariant-loop-place : goal.invariant-loop-place
invariant-loop-place g l = record {
  text : l.lines.bytes ++ flat_map (standing_text l.site.schema) (drop l.place (in_order l.errors.lists)) ≡ l.fn.lines.bytes ++ errors_text l.name.0 l.site;
  front : StandBefore l.fn.lines.bytes l.lines.bytes;
}
