-- Drawing spans one by one.
use Rattle.std.proofs.Common.{◌≡◌, ◌++◌, drop}
use Rattle.std.specs.List.{flat_map}
use Rattle.run_picture.specs.Marks.{span_marks}
use Rattle.run_picture.proofs.rows.Scene.draw_spans.Given as goal

-- the marks so far and those of the spans to come
abbrev pub invariant-loop-span : goal.invariant-loop-span
invariant-loop-span l = l.pen ++ flat_map (span_marks l.self.story.now) (drop l.span-index l.spans) ≡ l.fn.pen ++ flat_map (span_marks l.self.story.now) l.spans
