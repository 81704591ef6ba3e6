use Rattle.rep_declare.proofs.DeclaredLevels.{one_value_gets_the_level}
use Rattle.rep_declare.proofs.laws.one_value_gets_the_level.Goals as goal

pub returns : goal.returns
returns c = one_value_gets_the_level
