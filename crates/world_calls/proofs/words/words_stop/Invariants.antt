-- Looking for a call that is refused.
use Rattle.std.proofs.Common.{◌≡◌, ◌≤◌, drop}
use Rattle.world_state.specs.CallBlocks.{words_stop}
use Rattle.world_calls.proofs.words.words_stop.Given as goal

-- none so far is, and there aren't more than there may be
abbrev pub invariant-loop-call : goal.invariant-loop-call
invariant-loop-call l = record {
  few : l.number ≤ 1001;
  rest : words_stop l.site l.number (drop l.call-index l.calls) ≡ words_stop l.site 1 l.calls;
}
