-- Looking through spans.
use Rattle.std.proofs.Common.{◌≡◌, drop}
use Rattle.std.specs.List.{list_any}
use Rattle.run_picture.specs.Folding.{has_notable}
use Rattle.run_picture.proofs.folding.have_notable.Given as goal

-- those so far tell of nothing more
abbrev pub invariant-loop-span : goal.invariant-loop-span
invariant-loop-span l = list_any (has_notable l.story) (drop l.span-index l.spans) ≡ list_any (has_notable l.story) l.spans
