-- The laws of tokens, by the lemmas on readings.
use Rattle.script_lex.proofs.Readings.{tokens_found, tokens_all, one_reading, symbol_read_again}
use Rattle.script_lex.proofs.laws.token_laws.Goals as goal

pub returns-clause-one : goal.returns-clause-one
returns-clause-one c = one_reading

pub returns-clause-found : goal.returns-clause-found
returns-clause-found c = λ bytes ts. (tokens_found bytes ts, tokens_all)

pub returns-clause-symbols : goal.returns-clause-symbols
returns-clause-symbols c = symbol_read_again
