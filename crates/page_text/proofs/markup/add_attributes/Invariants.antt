-- Putting attributes one by one.
use Rattle.std.proofs.Common.{◌≡◌, ◌++◌, drop}
use Rattle.std.specs.List.{flat_map}
use Rattle.page_text.specs.Markup.{attribute_text}
use Rattle.page_text.proofs.markup.add_attributes.Given as goal

-- what was put and those to come are the whole
abbrev pub invariant-loop-attribute : goal.invariant-loop-attribute
invariant-loop-attribute l = l.out.items ++ flat_map attribute_text (drop l.attribute-index l.attributes) ≡ l.fn.out.items ++ flat_map attribute_text l.attributes
