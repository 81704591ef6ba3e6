-- The law of row changes.
use Rattle.convergence_laws.proofs.OnwardKeepsForms.{row_changes_keep_forms}
use Rattle.convergence_laws.proofs.laws.row_changes_keep_forms.Goals as goal

pub returns : goal.returns
returns c = row_changes_keep_forms (record { adds = c.move_is_added.ensures; greatest = c.greatest_stays.ensures; least = c.least_stays.ensures; latest = c.greater_rank_stays.ensures })
