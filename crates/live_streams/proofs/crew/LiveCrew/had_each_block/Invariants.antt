-- The sessions at the places so far had each block.
use Rattle.std.proofs.Common.{◌≡◌, ℕ, suc, ◌<◌, length, slice_index_or}
use Rattle.live_laws.specs.Turns.{blocks_of}
use Rattle.live_streams.proofs.crew.LiveCrew.had_each_block.Given as goal

abbrev pub invariant-loop-place : goal.invariant-loop-place
invariant-loop-place g l = (place : ℕ) → place < l.place → slice_index_or l.self.next place 0 ≡ length (blocks_of (suc place) l.self.sessions)
