use Rattle.std.proofs.Common.{rules, tests, sym, ◌∙◌}
use Rattle.std.proofs.lemmas.Iterator.{YieldsList-from_slice}
use Rattle.std.proofs.lemmas.Iterator.Search.{all_from_yields_List}
use Rattle.std.proofs.lemmas.List.Folds.{list_all-map}
use Rattle.rep_values.specs.declared.literal.Literal.{Literal}
use Rattle.rep_values.specs.Literal.{value_of_literal}
use Rattle.rep_schema.specs.Kinds.{value_in_range}
use Rattle.world_calls.proofs.literals.are_in_range.Goals as goal

pub returns : goal.returns
returns c =
    all_from_yields_List (λ (l : Literal). value_in_range (value_of_literal l)) _ _ _ c.all.ensures.ran (YieldsList-from_slice c.args.literals.now cc) (λ x b q k. search (rules, tests))
    ∙ sym (list_all-map value_in_range value_of_literal c.args.literals.now)
