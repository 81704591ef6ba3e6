-- The laws of streams.
use Rattle.event_laws.proofs.Streams.{streams_meet, arrivals_are_of_streams, links_stay}
use Rattle.event_laws.proofs.laws_of_joins.streams_meet.Goals as goal

pub returns-clause-meet : goal.returns-clause-meet
returns-clause-meet c = streams_meet

pub returns-clause-arrived : goal.returns-clause-arrived
returns-clause-arrived c = arrivals_are_of_streams

pub returns-clause-meshed : goal.returns-clause-meshed
returns-clause-meshed c = links_stay
