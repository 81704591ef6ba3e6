use Rattle.rep_laws.proofs.TransactionTouches.{transactions_touch}
use Rattle.rep_laws.proofs.EitherOrder.{commute_by_tokens}
use Rattle.rep_laws.proofs.commuting.independent_transactions_commute.Goals as goal

pub returns : goal.returns
returns c = commute_by_tokens transactions_touch
