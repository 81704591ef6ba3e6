-- A snapshot of which the query is away for a while.
use Rattle.std.proofs.Common.{◌≡◌, ℕ, zero, suc, ◌-◌, ◌^◌, List, [], ◌∷◌, length, set, get_or, Some, Result, Ok, Err, refl, ap}
use Rattle.std.specs.Prelude.{slice_get, option_map, OnOk, OnErr}
use Rattle.snapshot_query.specs.declared.snapshot.Snapshot.{Snapshot}
use Rattle.change_logs.specs.Logs.{RoomyLog}
use Rattle.change_logs.specs.Noting.{renewed}
use Rattle.change_logs.specs.RoomyNotes.{RoomySnapshot, snapshots_in, log_spares, least_room}
use Rattle.rep_lists.specs.Counting.{least}
use Rattle.change_logs.specs.Noted.{as_lent, with_query, without_query, at_place}
use Rattle.change_logs.proofs.Parts.{part_stays}

-- with its query back it is as it was
pub lent_return : (place : ℕ) (lent : Snapshot) (snapshots : List Snapshot) → option_map as_lent (slice_get snapshots place) ≡ Some lent
    → at_place place (with_query lent.query) (at_place place without_query snapshots) ≡ snapshots
lent_return place lent [] found = refl
lent_return zero lent (s ∷ ss) found = let same : as_lent s ≡ lent = cc in rw (← same) refl
lent_return (suc place) lent (s ∷ ss) found = ap (λ more. s ∷ more) (lent_return place lent ss found)

-- there are as many as before
pub length-at_place : (place : ℕ) (change : Snapshot → Snapshot) (snapshots : List Snapshot) → length (at_place place change snapshots) ≡ length snapshots
length-at_place place change [] = refl
length-at_place zero change (s ∷ ss) = refl
length-at_place (suc place) change (s ∷ ss) = ap suc (length-at_place place change ss)

-- a refresh leaves the query, whether it could be done or not
pub query_stays : {X E : Type 0} (moment : ℕ) (old new : Snapshot) (outcome : Result X E) → OnOk outcome (new ≡ renewed moment old) → OnErr outcome (new ≡ old) → new.query ≡ old.query
query_stays moment old new (Ok x) done same = ap (λ (s : Snapshot). s.query) done
query_stays moment old new (Err e) done same = ap (λ (s : Snapshot). s.query) same

-- a snapshot changes in its place
pub at_place-set : (change : Snapshot → Snapshot) (watched : List RoomySnapshot) (i : ℕ) (d new : RoomySnapshot) → new.snapshot ≡ change (get_or watched i d).snapshot
    → snapshots_in (set watched i new) ≡ at_place i change (snapshots_in watched)
at_place-set change [] i d new changed = refl
at_place-set change (w ∷ ws) zero d new changed = rw changed refl
at_place-set change (w ∷ ws) (suc i) d new changed = ap (λ more. w.snapshot ∷ more) (at_place-set change ws i d new changed)

-- and its room stays
pub least_room-set : (logs : List RoomyLog) (watched : List RoomySnapshot) (i : ℕ) (d new : RoomySnapshot) → new.spare ≡ (get_or watched i d).spare → least_room logs (set watched i new) ≡ least_room logs watched
least_room-set logs watched i d new same = ap (λ rooms. least (least (2 ^ 64 - 1) (log_spares logs)) rooms) (part_stays (λ (w : RoomySnapshot). w.spare) watched i d new same)
