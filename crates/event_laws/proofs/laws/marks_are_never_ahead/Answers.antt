-- The laws of marks.
use Rattle.event_laws.proofs.MarkLaws.{marks_are_low, purged_is_finished, arrivals_are_well_numbered}
use Rattle.event_laws.proofs.laws.marks_are_never_ahead.Goals as goal

pub returns-clause-low : goal.returns-clause-low
returns-clause-low c = marks_are_low

pub returns-clause-purged : goal.returns-clause-purged
returns-clause-purged c = purged_is_finished

pub returns-clause-numbered : goal.returns-clause-numbered
returns-clause-numbered c = arrivals_are_well_numbered
