-- The same token.
use Rattle.std.specs.Bool.{one_answer}
use Rattle.std.proofs.lemmas.Bool.{eq-eqb}
use Rattle.rep_schema.proofs.ValuesAt.{are_same-Decides}
use Rattle.dependency_index.proofs.token.Token.is_same.Goals as goal

-- two tests of one fact give one answer
pub returns-then-table-other_table-clause-value : goal.returns-then-table-other_table-clause-value
returns-then-table-other_table-clause-value c =
    let same = rw (c.values.ensures.value, c.values-then-table-other_table.ensures.value) at c.same_values.ensures in
    rw (c.in-Key-Key.is-0, c.in-Key-Key.is-1, eq-eqb _ _ c.if-table-other_table.true) (one_answer _ _ same (are_same-Decides c.in-Key-Key.key c.in-Key-Key.other_key))
