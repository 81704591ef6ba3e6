-- Putting calls one by one.
use Rattle.std.proofs.Common.{◌≡◌, ◌++◌, drop}
use Rattle.std.specs.List.{flat_map}
use Rattle.packet_code.specs.Spelling.{call_bytes}
use Rattle.packet_code.proofs.encoding.push_each_call.Given as goal

-- the bytes so far and those to come are all bytes
abbrev pub invariant-loop-call : goal.invariant-loop-call
invariant-loop-call l = l.out.items ++ flat_map call_bytes (drop l.call-index l.calls) ≡ l.fn.out.items ++ flat_map call_bytes l.calls
