-- The laws of tokens.
use Rattle.proc_state.proofs.Commuting.{independent_ones_end_alike, tokens_stand_for_tables}
use Rattle.proc_state.proofs.laws.independent_transactions_end_alike.Goals as goal

pub returns-clause-tokens : goal.returns-clause-tokens
returns-clause-tokens c = tokens_stand_for_tables

pub returns-clause-alike : goal.returns-clause-alike
returns-clause-alike c = independent_ones_end_alike
