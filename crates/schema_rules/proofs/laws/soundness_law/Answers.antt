use Rattle.schema_rules.proofs.SoundRules.{KeepsAllRules-unbroken}
use Rattle.schema_rules.proofs.laws.soundness_law.Goals as goal

pub returns : goal.returns
returns c = KeepsAllRules-unbroken
