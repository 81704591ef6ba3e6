-- Taking a script byte by byte.
use Rattle.std.proofs.Common.{◌≡◌, ◌-◌, false, drop, length}
use Rattle.std.specs.Prelude.{slice_get}
use Rattle.run_story.specs.Telling.{words_of, ends_run_in}
use Rattle.run_story.specs.Running.{IsSound}
use Rattle.run_story.proofs.Scripts.{IsAtByte}
use Rattle.run_story.proofs.open_story.OpenStory.read.Given as goal

-- the lines so far, the bytes of the open one and those to come are the script, no line ended the run, and the story is sound
abbrev pub invariant-loop-byte : goal.invariant-loop-byte
invariant-loop-byte g l =
    IsAtByte l.script (words_of l.self.lines) l.line.items (drop l.byte-index l.script)
    × (ends_run_in (slice_get l.self.lines (length l.self.lines - 1)) ≡ false)
    × IsSound l.self
