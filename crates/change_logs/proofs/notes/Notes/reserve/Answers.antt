use Rattle.std.proofs.Common.{◌≡◌, ℕ, ◌-◌, ◌^◌, ◌≤◌, true, false, List, ◌++◌, length, take, ◌∙◌, arith}
use Rattle.change_logs.specs.Logs.{RoomyLog}
use Rattle.rep_lists.proofs.InPlace.{written_back}
use Rattle.change_logs.specs.RoomyNotes.{RoomySnapshot, log_in, snapshot_in, log_spares, snapshot_spares, least_room}
use Rattle.rep_lists.specs.Counting.{least}
use Rattle.change_logs.proofs.Parts.{same_length}
use Rattle.change_logs.proofs.Room.{least-each, least-first, least-all, room_stays}
use Rattle.change_logs.proofs.notes.Notes.reserve.Goals as goal

pub returns-in_err-reserve_each-clause-succeeds : goal.returns-in_err-reserve_each-clause-succeeds
returns-in_err-reserve_each-clause-succeeds c = λ enough.
    let logs = log_spares c.self.inside.logs.items in
    let room : c.args.changes ≤ least_room c.self.inside.logs.items c.self.inside.watched.items = rw (← c.self.view_is) at enough in
    let never : false ≡ true = c.in_err-reserve_each.ensures.succeeds (rw c.deref_mut.ensures.value (least-each c.args.changes (2 ^ 64 - 1) logs (omega (arith, room, least-first (least (2 ^ 64 - 1) logs) (snapshot_spares c.self.inside.watched.items))))) in
    cc

pub returns-in_err-reserve_each-clause-room : goal.returns-in_err-reserve_each-clause-room
returns-in_err-reserve_each-clause-room c =
    let long : length c.reserve_each.new.logs ≡ c.self.inside.logs.len = same_length log_in c.reserve_each.new.logs c.deref_mut.result.now c.reserve_each.ensures.logs ∙ c.deref_mut.ensures.len in
    let watched = snapshot_spares c.self.inside.watched.items in
    rw (← c.self.view_is, written_back c.reserve_each.new.logs _ c.self.inside.logs.len long)
    (room_stays (2 ^ 64 - 1) (log_spares c.self.inside.logs.items) (log_spares c.reserve_each.new.logs) watched watched (λ free. rw c.deref_mut.ensures.value at (c.reserve_each.ensures.room free)) (λ free. omega arith))

pub returns-in_err-reserve_each-2-clause-succeeds : goal.returns-in_err-reserve_each-2-clause-succeeds
returns-in_err-reserve_each-2-clause-succeeds c = λ enough.
    let room = rw (← c.self.view_is) at enough in
    let never : false ≡ true = c.in_err-reserve_each-2.ensures.succeeds (rw c.deref_mut-2.ensures.value (least-each c.args.changes (least (2 ^ 64 - 1) (log_spares c.self.inside.logs.items)) (snapshot_spares c.self.inside.watched.items) room)) in
    cc

-- no room is given up where logs and snapshots are written back
kept : (old now more : List RoomyLog) (was is later : List RoomySnapshot) (m n : ℕ) → length now ≡ m → length is ≡ n
    → ((free : ℕ) → least free (log_spares old) ≤ least free (log_spares now)) → ((free : ℕ) → least free (snapshot_spares was) ≤ least free (snapshot_spares is))
    → least_room old was ≤ least_room (take m (now ++ more)) (take n (is ++ later))
kept old now more was is later m n logs snapshots first second =
    rw (written_back now more m logs, written_back is later n snapshots) (room_stays (2 ^ 64 - 1) (log_spares old) (log_spares now) (snapshot_spares was) (snapshot_spares is) first second)

pub returns-in_err-reserve_each-2-clause-room : goal.returns-in_err-reserve_each-2-clause-room
returns-in_err-reserve_each-2-clause-room c =
    let logs : length c.reserve_each.new.logs ≡ c.self.inside.logs.len = same_length log_in c.reserve_each.new.logs c.deref_mut.result.now c.reserve_each.ensures.logs ∙ c.deref_mut.ensures.len in
    let snapshots : length c.reserve_each-2.new.watched ≡ c.self.inside.watched.len = same_length snapshot_in c.reserve_each-2.new.watched c.deref_mut-2.result.now c.reserve_each-2.ensures.snapshots ∙ c.deref_mut-2.ensures.len in
    rw (← c.self.view_is)
    (kept c.self.inside.logs.items c.reserve_each.new.logs _ c.self.inside.watched.items c.reserve_each-2.new.watched _ c.self.inside.logs.len c.self.inside.watched.len logs snapshots
    (λ free. rw c.deref_mut.ensures.value at (c.reserve_each.ensures.room free)) (λ free. rw c.deref_mut-2.ensures.value at (c.reserve_each-2.ensures.room free)))

pub returns-clause-ok : goal.returns-clause-ok
returns-clause-ok c =
    let logs : length c.reserve_each.new.logs ≡ c.self.inside.logs.len = same_length log_in c.reserve_each.new.logs c.deref_mut.result.now c.reserve_each.ensures.logs ∙ c.deref_mut.ensures.len in
    let snapshots : length c.reserve_each-2.new.watched ≡ c.self.inside.watched.len = same_length snapshot_in c.reserve_each-2.new.watched c.deref_mut-2.result.now c.reserve_each-2.ensures.snapshots ∙ c.deref_mut-2.ensures.len in
    rw (written_back c.reserve_each.new.logs _ c.self.inside.logs.len logs, written_back c.reserve_each-2.new.watched _ c.self.inside.watched.len snapshots)
    (least-all c.args.changes (least (2 ^ 64 - 1) (log_spares c.reserve_each.new.logs)) (snapshot_spares c.reserve_each-2.new.watched)
    (least-all c.args.changes (2 ^ 64 - 1) (log_spares c.reserve_each.new.logs) (omega (arith, c.ranges.changes.fits)) c.in_ok-reserve_each.ensures.ok) c.in_ok-reserve_each-2.ensures.ok)

pub returns-clause-room : goal.returns-clause-room
returns-clause-room c =
    let logs : length c.reserve_each.new.logs ≡ c.self.inside.logs.len = same_length log_in c.reserve_each.new.logs c.deref_mut.result.now c.reserve_each.ensures.logs ∙ c.deref_mut.ensures.len in
    let snapshots : length c.reserve_each-2.new.watched ≡ c.self.inside.watched.len = same_length snapshot_in c.reserve_each-2.new.watched c.deref_mut-2.result.now c.reserve_each-2.ensures.snapshots ∙ c.deref_mut-2.ensures.len in
    rw (← c.self.view_is)
    (kept c.self.inside.logs.items c.reserve_each.new.logs _ c.self.inside.watched.items c.reserve_each-2.new.watched _ c.self.inside.logs.len c.self.inside.watched.len logs snapshots
    (λ free. rw c.deref_mut.ensures.value at (c.reserve_each.ensures.room free)) (λ free. rw c.deref_mut-2.ensures.value at (c.reserve_each-2.ensures.room free)))
