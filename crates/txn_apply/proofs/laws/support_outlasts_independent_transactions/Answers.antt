use Rattle.txn_apply.proofs.Outlasting.{support_outlasts}
use Rattle.txn_apply.proofs.laws.support_outlasts_independent_transactions.Goals as goal

pub returns : goal.returns
returns c = support_outlasts
