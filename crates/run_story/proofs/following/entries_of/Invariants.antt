-- Telling lanes one by one.
use Rattle.std.proofs.Common.{◌≡◌, ◌++◌, drop}
use Rattle.run_story.specs.Telling.{spans_from}
use Rattle.run_story.proofs.following.entries_of.Given as goal

-- what was told and what those to come tell
abbrev pub invariant-loop-place : goal.invariant-loop-place
invariant-loop-place l = l.entries.items ++ spans_from l.world l.place (drop l.place l.lanes) ≡ spans_from l.world 0 l.lanes
