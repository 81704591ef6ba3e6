-- Looking at lanes one by one.
use Rattle.std.proofs.Common.{◌≡◌, ◌++◌, drop, map}
use Rattle.run_story.specs.Telling.{lane_at}
use Rattle.run_story.proofs.following.lanes_at.Given as goal

-- those so far and those to come
abbrev pub invariant-loop-lane : goal.invariant-loop-lane
invariant-loop-lane l = l.after.items ++ map (lane_at l.world l.number) (drop l.lane-index l.lanes) ≡ map (lane_at l.world l.number) l.lanes
