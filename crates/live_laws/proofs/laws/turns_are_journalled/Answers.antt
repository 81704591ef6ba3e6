-- The law of what turns add to the journal.
use Rattle.live_laws.proofs.Journals.{turns_are_journalled}
use Rattle.live_laws.proofs.laws.turns_are_journalled.Goals as goal

pub returns : goal.returns
returns c = turns_are_journalled
