use Rattle.txn_effects.proofs.OwnCalls.{calls_effect-own}
use Rattle.txn_effects.proofs.laws.calls_of_changes_make_them.Goals as goal

pub returns : goal.returns
returns c schema changes tables later shape have origin numbers =
    calls_effect-own schema origin numbers 1 changes tables later shape have.are have.lead have.differ have.checked
