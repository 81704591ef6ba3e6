use Rattle.std.proofs.Common.{refl}
use Rattle.subquery_snapshots.proofs.rule.Rule.of.Goals as goal

pub returns-in-Some : goal.returns-in-Some
returns-in-Some c = λ schema tables row. rw c.in-Some.is refl

pub returns-in-None : goal.returns-in-None
returns-in-None c = λ schema tables row. rw c.in-None.is refl
