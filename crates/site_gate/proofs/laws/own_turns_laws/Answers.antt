use Rattle.site_gate.proofs.OwnTurns.{own_turns_stand, joins_keep_own_turns}
use Rattle.site_gate.proofs.laws.own_turns_laws.Goals as goal

pub returns-clause-stand : goal.returns-clause-stand
returns-clause-stand g c = own_turns_stand

pub returns-clause-join : goal.returns-clause-join
returns-clause-join g c = joins_keep_own_turns
