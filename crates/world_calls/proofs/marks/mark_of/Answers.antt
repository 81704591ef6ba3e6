use Rattle.std.proofs.Common.{sym, ap}
use Rattle.world_state.specs.CallPushes.{calls_mark_from}
use Rattle.world_calls.proofs.marks.mark_of.Goals as goal

pub returns-in_default : goal.returns-in_default
returns-in_default c = ap (calls_mark_from c.args.to.now) (sym c.in_default.ensures)
