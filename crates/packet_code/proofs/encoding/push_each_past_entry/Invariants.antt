-- Putting masters one by one.
use Rattle.std.proofs.Common.{◌≡◌, ◌++◌, drop}
use Rattle.std.specs.List.{flat_map}
use Rattle.packet_code.specs.Spelling.{past_entry_bytes}
use Rattle.packet_code.proofs.encoding.push_each_past_entry.Given as goal

-- the bytes so far and those to come are all bytes
abbrev pub invariant-loop-seen : goal.invariant-loop-seen
invariant-loop-seen l = l.out.items ++ flat_map past_entry_bytes (drop l.seen-index l.past) ≡ l.fn.out.items ++ flat_map past_entry_bytes l.past
