use Rattle.rep_lists.proofs.FoundByKey.{find_put_own, find_put_other, find_take, find_take_other, same_from_finds}
use Rattle.rep_lists.proofs.laws.rising_list_laws.Goals as goal

pub returns-clause-put : goal.returns-clause-put
returns-clause-put g c = find_put_own

pub returns-clause-put_other : goal.returns-clause-put_other
returns-clause-put_other g c = find_put_other

pub returns-clause-take : goal.returns-clause-take
returns-clause-take g c = find_take

pub returns-clause-take_other : goal.returns-clause-take_other
returns-clause-take_other g c = find_take_other

pub returns-clause-same : goal.returns-clause-same
returns-clause-same g c = same_from_finds
