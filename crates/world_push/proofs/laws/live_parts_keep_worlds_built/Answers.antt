-- The laws of masters that are lent out.
use Rattle.world_push.proofs.LiveParts.{lendings_are_events, lendings_keep_worlds_built, live_parts_keep_worlds_built, returns_keep_worlds_built}
use Rattle.world_push.proofs.laws.live_parts_keep_worlds_built.Goals as goal

pub returns-clause-events : goal.returns-clause-events
returns-clause-events c = lendings_are_events

pub returns-clause-lent : goal.returns-clause-lent
returns-clause-lent c = lendings_keep_worlds_built

pub returns-clause-back : goal.returns-clause-back
returns-clause-back c = live_parts_keep_worlds_built

pub returns-clause-closed : goal.returns-clause-closed
returns-clause-closed c = returns_keep_worlds_built
