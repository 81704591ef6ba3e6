use Rattle.std.specs.Bool.{one_answer}
use Rattle.conflict_detect.specs.Fits.{TxnFits}
use Rattle.conflict_detect.proofs.FitTested.{txn_test}
use Rattle.conflict_detect.proofs.fitting.fits.Goals as goal

-- two tests of one fact give one answer
pub returns-clause-value : goal.returns-clause-value
returns-clause-value c =
    let each = rw c.as_slice.ensures at c.each_call_fits.ensures in
    one_answer {P = TxnFits c.args.schema.now c.args.txn.now} _ _ (λ yes. record { calls = each.0 yes }, λ fits. each.1 fits.calls) (txn_test c.args.schema.now c.args.txn.now)
