use Rattle.rep_laws.proofs.TransactionTouches.{transactions_touch}
use Rattle.rep_laws.proofs.commuting.transactions_touch_their_tokens.Goals as goal

pub returns : goal.returns
returns c = transactions_touch
