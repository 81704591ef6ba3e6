-- Adding what was seen, one master after the other.
use Rattle.std.proofs.Common.{◌≡◌, ◌++◌, drop}
use Rattle.std.specs.Prelude.{flat_map}
use Rattle.report_text.specs.Sheet.{StandBefore}
use Rattle.site_report.specs.Shows.{past_text}
use Rattle.site_report.proofs.queue.add_past.Given as goal

-- the masters so far and those to come are all of them, and what stood there is kept
abbrev pub invariant-loop-seen : goal.invariant-loop-seen
invariant-loop-seen l = record {
  text : l.lines.bytes ++ flat_map past_text (drop l.seen-index l.past) ≡ l.fn.lines.bytes ++ flat_map past_text l.past;
  front : StandBefore l.fn.lines.bytes l.lines.bytes;
}
