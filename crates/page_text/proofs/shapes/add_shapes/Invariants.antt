-- Putting shapes one by one.
use Rattle.std.proofs.Common.{◌≡◌, ◌++◌, drop}
use Rattle.std.specs.List.{flat_map}
use Rattle.page_text.specs.Shapes.{shape_bytes}
use Rattle.page_text.proofs.shapes.add_shapes.Given as goal

-- what was put and those to come are the whole
abbrev pub invariant-loop-shape : goal.invariant-loop-shape
invariant-loop-shape l = l.out.items ++ flat_map shape_bytes (drop l.shape-index l.shapes) ≡ l.fn.out.items ++ flat_map shape_bytes l.shapes
