-- Adding parts one by one.
use Rattle.std.proofs.Common.{◌≡◌, ◌++◌, drop}
use Rattle.std.specs.List.{flat_map}
use Rattle.report_text.specs.Sheet.{StandBefore, spaced}
use Rattle.report_text.specs.Calls.{part_words}
use Rattle.report_text.proofs.calls.add_parts.Given as goal

-- the parts so far and those to come are the whole text, and what stood there is kept
abbrev pub invariant-loop-part : goal.invariant-loop-part
invariant-loop-part l = record {
  text :
      l.lines.bytes ++ spaced (flat_map (part_words l.schema l.table) (drop l.part-index l.parts))
      ≡ l.fn.lines.bytes ++ spaced (flat_map (part_words l.schema l.table) l.parts);
  front : StandBefore l.fn.lines.bytes l.lines.bytes;
}
