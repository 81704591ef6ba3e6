use Rattle.txn_effects.proofs.TransactionEffects.{IsApplied-txn_effect}
use Rattle.txn_effects.proofs.laws.transactions_lead_to_their_tables.Goals as goal

pub returns : goal.returns
returns c = IsApplied-txn_effect
