-- How the notes of a site are kept: logs and snapshots, each with room for more keys.
use Rattle.std.specs.Prelude.{ℕ, ◌-◌, ◌^◌, List, ◌∷◌, map}
use Rattle.snapshot_query.specs.declared.snapshot.Snapshot.{Snapshot}
use Rattle.change_logs.specs.LogState.{LogState}
use Rattle.change_logs.specs.Logs.{RoomyLog}
use Rattle.rep_lists.specs.Counting.{least}

-- a snapshot, and how many keys can be noted at it without memory
pub record RoomySnapshot : Type 0 where
  pub snapshot : Snapshot
  pub spare : ℕ

abbrev pub log_in : RoomyLog → LogState
log_in roomy = roomy.log

-- the logs alone
abbrev pub logs_in : List RoomyLog → List LogState
logs_in logs = map log_in logs

-- the room of each log
abbrev pub log_spares : List RoomyLog → List ℕ
log_spares logs = map (λ (l : RoomyLog). l.spare) logs

abbrev pub snapshot_in : RoomySnapshot → Snapshot
snapshot_in roomy = roomy.snapshot

-- the snapshots alone
abbrev pub snapshots_in : List RoomySnapshot → List Snapshot
snapshots_in watched = map snapshot_in watched

-- the room of each snapshot
abbrev pub snapshot_spares : List RoomySnapshot → List ℕ
snapshot_spares watched = map (λ (w : RoomySnapshot). w.spare) watched

-- the least room of all logs and snapshots, the greatest number where there are none
abbrev pub least_room : List RoomyLog → List RoomySnapshot → ℕ
least_room logs watched = least (least (2 ^ 64 - 1) (log_spares logs)) (snapshot_spares watched)
