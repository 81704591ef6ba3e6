-- Putting values one by one.
use Rattle.std.proofs.Common.{◌≡◌, ◌≤◌, ◌+◌, ◌*◌, ◌++◌, drop, map, length}
use Rattle.report_text.specs.Sheet.{spaced, most_value}
use Rattle.report_text.specs.Texts.{value_text}
use Rattle.report_text.proofs.shown.put_values.Given as goal

-- the values so far and those to come are the whole text
abbrev pub invariant-loop-value : goal.invariant-loop-value
invariant-loop-value l = record {
  text : l.lines.bytes ++ spaced (map value_text (drop l.value-index l.values)) ≡ l.fn.lines.bytes ++ spaced (map value_text l.values);
  room : l.fn.lines.room + length l.fn.lines.bytes ≤ l.lines.room + length l.lines.bytes;
  spent : l.fn.lines.room ≤ l.lines.room + most_value * l.value-index;
}
