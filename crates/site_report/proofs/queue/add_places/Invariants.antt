-- Adding places one by one.
use Rattle.std.proofs.Common.{◌≡◌, ◌++◌, drop}
use Rattle.std.specs.Prelude.{flat_map}
use Rattle.report_text.specs.Sheet.{StandBefore}
use Rattle.site_report.specs.Shows.{stream_place_of}
use Rattle.site_report.proofs.queue.add_places.Given as goal

-- the places so far and those to come are all of them, and what stood there is kept
abbrev pub invariant-loop-to : goal.invariant-loop-to
invariant-loop-to g l = record {
  text :
      l.lines.bytes ++ flat_map (stream_place_of l.site l.number) (drop l.to-index l.destinations) ≡ l.fn.lines.bytes ++ flat_map (stream_place_of l.site l.number) l.destinations;
  front : StandBefore l.fn.lines.bytes l.lines.bytes;
}
