use Rattle.rep_schema.proofs.RowFit.{length-fits}
use Rattle.rep_schema.proofs.conditions.fits_each.Goals as goal

pub returns-then-columns-row : goal.returns-then-columns-row
returns-then-columns-row c = (λ yes. cc, λ fits. absurd (c.if-columns-row.true (length-fits _ _ fits)))
