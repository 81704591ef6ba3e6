-- What a log holds, after keys were noted and after a purge.
use Rattle.std.specs.Prelude.{◌≡◌, ◌≢◌, ℕ, nat_lt, cond, Option, Some, None}
use Rattle.rep_lists.specs.Rising.{IsRising}
use Rattle.rep_schema.specs.Tables.{Cells}
use Rattle.change_logs.specs.LogState.{LogState, log_purged}
use Rattle.change_logs.specs.Logs.{by_key, key_noted, moment_in}

-- a moment that a purge up to a mark doesn't reach
abbrev pub unless_up_to : ℕ → Option ℕ → Option ℕ
unless_up_to mark None = None
unless_up_to mark (Some moment) = cond (nat_lt mark moment) (Some moment) None

-- a noted key has its last moment
abbrev pub HoldsLastMoments : Type 0
HoldsLastMoments = (moment : ℕ) (key : Cells) (log : LogState) → moment_in key (key_noted moment key log) ≡ Some moment

-- the other keys are as before
abbrev pub NotesOneKey : Type 0
NotesOneKey = (moment : ℕ) (key other : Cells) (log : LogState) → key ≢ other → moment_in other (key_noted moment key log) ≡ moment_in other log

-- a purge takes the keys with a moment up to its mark, and no other
abbrev pub PurgesUpToMarks : Type 0
PurgesUpToMarks = (mark : ℕ) (key : Cells) (log : LogState) → IsRising by_key log.keys → moment_in key (log_purged mark log) ≡ unless_up_to mark (moment_in key log)
