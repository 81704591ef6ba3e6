use Rattle.unique_resolve.proofs.Tries.{is_held-answer}
use Rattle.unique_resolve.proofs.trying.is_held.Goals as goal

pub returns : goal.returns
returns g c = is_held-answer _ _ c.args.at.table c.args.at.place c.args.row.now c.requires _ c.holds_unique.ensures
