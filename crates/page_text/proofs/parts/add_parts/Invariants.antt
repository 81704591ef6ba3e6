-- Putting parts one by one.
use Rattle.std.proofs.Common.{◌≡◌, ◌++◌, drop}
use Rattle.std.specs.List.{flat_map}
use Rattle.page_text.specs.Pages.{part_bytes}
use Rattle.page_text.proofs.parts.add_parts.Given as goal

-- what was put and those to come are the whole
abbrev pub invariant-loop-part : goal.invariant-loop-part
invariant-loop-part l = l.out.items ++ flat_map part_bytes (drop l.part-index l.parts) ≡ l.fn.out.items ++ flat_map part_bytes l.parts
