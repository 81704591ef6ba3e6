-- Sending position by position.
use Rattle.std.proofs.Common.{◌≡◌, ◌+◌}
use Rattle.std.specs.List.{range_with_len}
use Rattle.world_state.specs.Pushes.{world_send_each}
use Rattle.world_push.proofs.send.send_above.Given as goal

-- the first positions are sent, so many
abbrev pub invariant-loop-sent : goal.invariant-loop-sent
invariant-loop-sent l = l.parts ≡ world_send_each l.from l.to (range_with_len (l.unsent.acked + 1) l.sent) l.initial.parts
