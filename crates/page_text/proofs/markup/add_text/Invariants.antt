-- Putting bytes one by one.
use Rattle.std.proofs.Common.{◌≡◌, ◌++◌, drop}
use Rattle.std.specs.List.{flat_map}
use Rattle.page_text.specs.Markup.{unit_of}
use Rattle.page_text.proofs.markup.add_text.Given as goal

-- what was put and those to come are the whole
abbrev pub invariant-loop-byte : goal.invariant-loop-byte
invariant-loop-byte l = l.out.items ++ flat_map unit_of (drop l.byte-index l.text) ≡ l.fn.out.items ++ flat_map unit_of l.text
