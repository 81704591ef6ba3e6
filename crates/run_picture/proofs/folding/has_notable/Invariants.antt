-- Looking for an entry.
use Rattle.std.proofs.Common.{◌≡◌, drop}
use Rattle.std.specs.List.{list_any}
use Rattle.run_picture.specs.Marks.{entries_in}
use Rattle.run_picture.specs.Folding.{is_notable}
use Rattle.run_picture.proofs.folding.has_notable.Given as goal

-- those so far tell of nothing more
abbrev pub invariant-loop-place : goal.invariant-loop-place
invariant-loop-place l = list_any is_notable (drop l.place (entries_in l.story l.span)) ≡ list_any is_notable (entries_in l.story l.span)
