-- Parts read one by one.
use Rattle.std.proofs.Common.{◌≡◌, ◌-◌, vec_len, vec_capacity}
use Rattle.packet_code.specs.Reading.{times, with_found}
use Rattle.packet_code.proofs.repeated.times.Given as goal

-- the parts found so far and those that are left are those of the start, and there is room for all
abbrev pub invariant-loop : goal.invariant-loop
invariant-loop g l = record {
  left : with_found l.found.items (times (l.count - l.counter) g.P.Piece.reading l.bytes) ≡ times l.count g.P.Piece.reading l.initial.bytes;
  found : vec_len l.found ≡ l.counter;
  room : vec_capacity l.found ≡ l.count;
}
