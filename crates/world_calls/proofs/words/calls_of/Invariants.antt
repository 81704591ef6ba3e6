-- Making calls one by one.
use Rattle.std.proofs.Common.{◌≡◌, ◌++◌, drop}
use Rattle.world_state.specs.CallBlocks.{calls_of}
use Rattle.world_calls.proofs.words.calls_of.Given as goal

-- those so far, and those of the words to come
abbrev pub invariant-loop-call : goal.invariant-loop-call
invariant-loop-call l = l.made ++ calls_of l.site (drop l.call-index l.calls) ≡ calls_of l.site l.calls
