-- The laws of turns as events.
use Rattle.live_laws.proofs.TurnEvents.{turns_are_events, live_parts_are_events}
use Rattle.live_laws.proofs.laws.turns_are_events.Goals as goal

pub returns-clause-turns : goal.returns-clause-turns
returns-clause-turns c = turns_are_events

pub returns-clause-part : goal.returns-clause-part
returns-clause-part c = live_parts_are_events
