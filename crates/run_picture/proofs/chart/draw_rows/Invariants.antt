-- Showing lines one by one.
use Rattle.std.proofs.Common.{◌≡◌, ◌++◌, drop}
use Rattle.std.specs.List.{flat_map}
use Rattle.run_picture.specs.Folding.{shown_marks}
use Rattle.run_picture.proofs.chart.draw_rows.Given as goal

-- the marks so far and those of the lines to come
abbrev pub invariant-loop-place : goal.invariant-loop-place
invariant-loop-place l = l.pen ++ flat_map (shown_marks l.scene.story.now l.folded) (drop l.place l.scene.story.now.lines) ≡ l.fn.pen ++ flat_map (shown_marks l.scene.story.now l.folded) l.scene.story.now.lines
