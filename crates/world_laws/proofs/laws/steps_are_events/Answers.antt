-- The law of lines.
use Rattle.world_laws.proofs.Pieces.{steps_are_events, steps_are_events_however_refused}
use Rattle.world_laws.proofs.laws.steps_are_events.Goals as goal

pub returns-clause-steps : goal.returns-clause-steps
returns-clause-steps c = steps_are_events

pub returns-clause-refused : goal.returns-clause-refused
returns-clause-refused c = steps_are_events_however_refused
