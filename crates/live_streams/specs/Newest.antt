-- What the newest entry of a journal tells of a turn.
use Rattle.std.specs.Prelude.{Option, Some, None}
use Rattle.site_state.specs.declared.entry.Entry.{Entry}
use Rattle.site_state.specs.declared.entry.Entry.TheVariants.{Local, Done, Error, Executed, Dropped, Refreshed}
use Rattle.live_laws.specs.declared.turn.LiveTurn.{LiveTurn}
use Rattle.live_laws.specs.declared.turn.LiveTurn.TheVariants.{Applied}

-- the turn of which an entry tells, where it finishes a position that arrived
abbrev pub turn_of : Entry → Option LiveTurn
turn_of (Local number txn) = None
turn_of (Done origin position onward txn) = Some (Applied origin position 0 None)
turn_of (Error origin position call error txn) = Some (Applied origin position call (Some error))
turn_of (Executed origin position onward txn) = None
turn_of (Dropped origin position) = None
turn_of (Refreshed moment) = None
