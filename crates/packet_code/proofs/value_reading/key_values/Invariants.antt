-- Values read one by one behind the first.
use Rattle.std.proofs.Common.{◌≡◌, ◌-◌, length}
use Rattle.packet_code.specs.Forms.{value}
use Rattle.packet_code.specs.Reading.{times, with_found}
use Rattle.packet_code.proofs.value_reading.key_values.Given as goal

-- the values found so far and those that are left are those of the start
abbrev pub invariant-loop : goal.invariant-loop
invariant-loop l = (with_found l.into (times (l.count - l.counter) value l.bytes) ≡ times l.count value l.fn.bytes) × (length l.into ≡ l.counter)
