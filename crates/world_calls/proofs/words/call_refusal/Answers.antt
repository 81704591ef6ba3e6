-- The procedures of a site are of its tables.
use Rattle.world_calls.proofs.CallWalk.{table_there}
use Rattle.world_calls.proofs.words.call_refusal.Goals as goal

pub values_refusal-requires : goal.values_refusal-requires
values_refusal-requires c =
    table_there c.args.site.now c.args.call.now.procedure c.procedures.result.now c.schema.result.now c.in-Some.procedure.now c.laws.ensures.fits c.procedures.ensures c.schema.ensures c.in-Some.ensures
