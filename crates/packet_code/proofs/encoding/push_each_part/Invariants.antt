-- Putting parts one by one.
use Rattle.std.proofs.Common.{◌≡◌, ◌++◌, drop}
use Rattle.std.specs.List.{flat_map}
use Rattle.packet_code.specs.Spelling.{part_bytes}
use Rattle.packet_code.proofs.encoding.push_each_part.Given as goal

-- the bytes so far and those to come are all bytes
abbrev pub invariant-loop-part : goal.invariant-loop-part
invariant-loop-part l = l.out.items ++ flat_map part_bytes (drop l.part-index l.parts) ≡ l.fn.out.items ++ flat_map part_bytes l.parts
