use Rattle.deferred_queue.proofs.StreamLaws.{positions_are_full, numbers_rise, deps_are_earlier, numbers_are_queued, sent_are_in_order, places_are_found}
use Rattle.deferred_queue.proofs.laws.stream_laws.Goals as goal

pub returns-clause-full : goal.returns-clause-full
returns-clause-full c = positions_are_full

pub returns-clause-rise : goal.returns-clause-rise
returns-clause-rise c = numbers_rise

pub returns-clause-earlier : goal.returns-clause-earlier
returns-clause-earlier c = deps_are_earlier

pub returns-clause-queued : goal.returns-clause-queued
returns-clause-queued c = numbers_are_queued

pub returns-clause-in_order : goal.returns-clause-in_order
returns-clause-in_order c = sent_are_in_order

pub returns-clause-found : goal.returns-clause-found
returns-clause-found c = places_are_found
