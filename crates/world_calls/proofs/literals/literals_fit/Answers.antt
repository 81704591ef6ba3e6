use Rattle.std.proofs.Common.{sym}
use Rattle.world_calls.proofs.LiteralWalk.{others_dont_fit}
use Rattle.world_calls.proofs.literals.literals_fit.Goals as goal

pub returns-then-columns-literals : goal.returns-then-columns-literals
returns-then-columns-literals c = sym (others_dont_fit c.args.schema.now c.args.columns.now c.args.literals.now c.if-columns-literals.true)
