-- Telling turns one by one.
use Rattle.std.proofs.Common.{◌≡◌}
use Rattle.run_picture.proofs.rows.Scene.put_turns.Given as goal

-- nothing is marked
abbrev pub invariant-loop-turn : goal.invariant-loop-turn
invariant-loop-turn l = l.pen ≡ l.fn.pen
