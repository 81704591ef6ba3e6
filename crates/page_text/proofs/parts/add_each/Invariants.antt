-- Putting texts one by one.
use Rattle.std.proofs.Common.{◌≡◌, ◌++◌, drop}
use Rattle.std.specs.List.{flat_map}
use Rattle.page_text.specs.Pages.{words_in}
use Rattle.page_text.proofs.parts.add_each.Given as goal

-- what was put and those to come are the whole
abbrev pub invariant-loop-text : goal.invariant-loop-text
invariant-loop-text l = l.out.items ++ flat_map (words_in l.tag) (drop l.text-index l.texts) ≡ l.fn.out.items ++ flat_map (words_in l.tag) l.texts
