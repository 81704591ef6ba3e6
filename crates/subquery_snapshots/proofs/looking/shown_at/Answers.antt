use Rattle.std.proofs.Common.{refl, sym, ◌∙◌}
use Rattle.subquery_snapshots.proofs.looking.shown_at.Goals as goal

pub picks-requires-clause-rule : goal.picks-requires-clause-rule
picks-requires-clause-rule g c = rw c.copy_at.ensures.schema c.requires.rule

pub picks-requires-clause-master : goal.picks-requires-clause-master
picks-requires-clause-master g c = rw (c.copy_at.ensures.schema, c.copy_at.ensures.tables) c.requires.master

pub returns-in_default-clause-row : goal.returns-in_default-clause-row
returns-in_default-clause-row g c = rw (sym c.in_ok-row.ensures.row ∙ c.in_default.is) refl

pub returns-then-picked-clause-row : goal.returns-then-picked-clause-row
returns-then-picked-clause-row g c =
    let found = sym c.in_ok-row.ensures.row ∙ c.in-Some.is in
    let picks = rw (c.copy_at.ensures.schema, c.copy_at.ensures.tables) at c.in_ok-picked.ensures.value in
    rw (found, sym picks ∙ c.if-picked.true) refl

pub returns-else-picked-clause-row : goal.returns-else-picked-clause-row
returns-else-picked-clause-row g c =
    let found = sym c.in_ok-row.ensures.row ∙ c.in-Some.is in
    let picks = rw (c.copy_at.ensures.schema, c.copy_at.ensures.tables) at c.in_ok-picked.ensures.value in
    rw (found, sym picks ∙ c.if-picked.false) refl
