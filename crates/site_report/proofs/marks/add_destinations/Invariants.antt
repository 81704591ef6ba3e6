-- Adding destinations one by one.
use Rattle.std.proofs.Common.{◌≡◌, ◌++◌, drop}
use Rattle.std.specs.Prelude.{flat_map}
use Rattle.report_text.specs.Sheet.{StandBefore}
use Rattle.site_report.specs.Shows.{destination_text}
use Rattle.site_report.proofs.marks.add_destinations.Given as goal

-- the destinations so far and those to come are all of them, and what stood there is kept
abbrev pub invariant-loop-to : goal.invariant-loop-to
invariant-loop-to g l = record {
  text : l.lines.bytes ++ flat_map (destination_text l.site) (drop l.to-index l.destinations) ≡ l.fn.lines.bytes ++ flat_map (destination_text l.site) l.destinations;
  front : StandBefore l.fn.lines.bytes l.lines.bytes;
}
