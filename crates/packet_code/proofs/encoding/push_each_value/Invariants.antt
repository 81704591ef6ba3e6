-- Putting values one by one.
use Rattle.std.proofs.Common.{◌≡◌, ◌++◌, drop}
use Rattle.std.specs.List.{flat_map}
use Rattle.packet_code.specs.Spelling.{value_bytes}
use Rattle.packet_code.proofs.encoding.push_each_value.Given as goal

-- the bytes so far and those to come are all bytes
abbrev pub invariant-loop-value : goal.invariant-loop-value
invariant-loop-value l = l.out.items ++ flat_map value_bytes (drop l.value-index l.values) ≡ l.fn.out.items ++ flat_map value_bytes l.values
