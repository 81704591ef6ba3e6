-- Adding values one by one.
use Rattle.std.proofs.Common.{◌≡◌, ◌++◌, drop, map}
use Rattle.report_text.specs.Sheet.{StandBefore, spaced}
use Rattle.report_text.specs.Texts.{value_text}
use Rattle.report_text.proofs.calls.add_values.Given as goal

-- the values so far and those to come are the whole text, and what stood there is kept
abbrev pub invariant-loop-value : goal.invariant-loop-value
invariant-loop-value l = record {
  text : l.lines.bytes ++ spaced (map value_text (drop l.value-index l.values)) ≡ l.fn.lines.bytes ++ spaced (map value_text l.values);
  front : StandBefore l.fn.lines.bytes l.lines.bytes;
}
