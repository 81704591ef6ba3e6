-- A schema whose tables have keys.
use Rattle.stream_cases.proofs.Keyed.{keys_of_each}
use Rattle.stream_cases.proofs.tokens.has_keys.Goals as goal

pub returns : goal.returns
returns c = λ yes. keys_of_each c.args.schema.now ((rw c.as_slice.ensures at c.are_keyed.ensures).0 yes)
