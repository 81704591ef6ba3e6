-- Gathering those that are there.
use Rattle.std.proofs.Common.{◌≡◌, ◌++◌, drop, filter}
use Rattle.world_state.specs.World.{is_there}
use Rattle.world_commands.proofs.shown.those_there.Given as goal

-- those so far, and those of the names to come
abbrev pub invariant-loop-name : goal.invariant-loop-name
invariant-loop-name l = filter (is_there l.parts) l.names ≡ l.there ++ filter (is_there l.parts) (drop l.name-index l.names)
