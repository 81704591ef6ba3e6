-- Drawing entries one by one.
use Rattle.std.proofs.Common.{◌≡◌, ◌++◌, drop, map}
use Rattle.run_picture.specs.Marks.{mark_of_entry, entries_in}
use Rattle.run_picture.proofs.badges.draw_badges.Given as goal

-- the marks so far and those of the entries to come
abbrev pub invariant-loop-place : goal.invariant-loop-place
invariant-loop-place l = l.pen ++ map (mark_of_entry l.number) (drop l.place (entries_in l.story l.span)) ≡ l.fn.pen ++ map (mark_of_entry l.number) (entries_in l.story l.span)
