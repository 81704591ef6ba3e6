use Rattle.std.proofs.Common.{sym, ◌∙◌}
use Rattle.rep_schema.proofs.SameValues.{same_at}
use Rattle.rep_schema.proofs.compare.same_picked.Goals as goal

-- the values at one place differ
pub returns-then-not-same_cell : goal.returns-then-not-same_cell
returns-then-not-same_cell c = (λ yes. cc, λ same. sym c.if-not-same_cell.true ∙ c.same_cell.ensures.1 (same_at _ _ _ _ 0 c.loop-place-test.true same))
