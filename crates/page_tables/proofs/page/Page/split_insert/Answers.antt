use Rattle.std.proofs.Common.{◌++◌, insert, sym, ap, ◌∙◌, arith}
use Rattle.std.proofs.lemmas.List.Edits.{insert-append_right}
use Rattle.page_tables.proofs.page.Page.split_insert.Goals as goal

pub returns-else-place-le-HALF-clause-slots : goal.returns-else-place-le-HALF-clause-slots
returns-else-place-le-HALF-clause-slots c =
    ap (λ t. c.halve.new.self ++ t) c.insert-else-place-le-HALF.ensures ∙ (sym (insert-append_right _ _ 32 c.args.place c.args.slot c.halve.ensures.here (omega arith)) ∙ ap (λ t. insert t c.args.place c.args.slot) c.halve.ensures.slots)
