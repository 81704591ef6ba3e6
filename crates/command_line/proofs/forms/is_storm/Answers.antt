use Rattle.std.proofs.Common.{arith}
use Rattle.command_line.proofs.FormLemmas.{is_storm-few, is_storm-many}
use Rattle.command_line.proofs.forms.is_storm.Goals as goal

pub returns-in-empty : goal.returns-in-empty
returns-in-empty c = is_storm-few c.args.words.now (omega (arith, c.in-empty.len_below))

pub returns-in_default : goal.returns-in_default
returns-in_default c = is_storm-many c.args.words.now (omega (arith, c.in_default.len_at_least))
