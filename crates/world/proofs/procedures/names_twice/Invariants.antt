-- Looking for a site that is named twice.
use Rattle.std.proofs.Common.{◌≡◌, drop}
use Rattle.world_state.specs.CallBlocks.{names_twice}
use Rattle.world.proofs.procedures.names_twice.Given as goal

-- none of those of the front is named behind it
abbrev pub invariant-loop-place : goal.invariant-loop-place
invariant-loop-place l = record {
  rest : names_twice (drop l.place l.names) ≡ names_twice l.names;
}
