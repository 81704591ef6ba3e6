use Rattle.std.proofs.Common.{◌≡◌, ◌-◌, ◌^◌, ◌≤◌, length, ◌∙◌, arith}
use Rattle.rep_lists.proofs.InPlace.{written_back}
use Rattle.change_logs.specs.Noting.{logged_in, touched_in}
use Rattle.change_logs.specs.RoomyNotes.{log_in, snapshot_in, log_spares, snapshot_spares, least_room}
use Rattle.rep_lists.specs.Counting.{least}
use Rattle.change_logs.proofs.Parts.{changed_length}
use Rattle.change_logs.proofs.Room.{least-each, least-first, room_falls}
use Rattle.change_logs.proofs.notes.Notes.note.Goals as goal

pub note_each-requires-clause-room : goal.note_each-requires-clause-room
note_each-requires-clause-room c =
    let used = length c.args.changes.now in
    let logs = log_spares c.self.inside.logs.items in
    let room : used ≤ least_room c.self.inside.logs.items c.self.inside.watched.items = rw (← c.self.view_is) at c.requires.room in
    rw c.deref_mut.ensures.value (least-each used (2 ^ 64 - 1) logs (omega (arith, room, least-first (least (2 ^ 64 - 1) logs) (snapshot_spares c.self.inside.watched.items))))

pub touch_each-requires-clause-room : goal.touch_each-requires-clause-room
touch_each-requires-clause-room c =
    let used = length c.args.changes.now in
    let room = rw (← c.self.view_is) at c.requires.room in
    rw c.deref_mut-2.ensures.value (least-each used (least (2 ^ 64 - 1) (log_spares c.self.inside.logs.items)) (snapshot_spares c.self.inside.watched.items) room)

pub returns-clause-room : goal.returns-clause-room
returns-clause-room c =
    let changes = c.args.changes.now in
    let logs : length c.note_each.new.logs ≡ c.self.inside.logs.len = changed_length log_in (logged_in c.args.schema.now c.args.moment changes) c.note_each.new.logs c.deref_mut.result.now c.note_each.ensures.logs ∙ c.deref_mut.ensures.len in
    let snapshots : length c.touch_each.new.watched ≡ c.self.inside.watched.len = changed_length snapshot_in (touched_in c.args.schema.now changes) c.touch_each.new.watched c.deref_mut-2.result.now c.touch_each.ensures.snapshots ∙ c.deref_mut-2.ensures.len in
    rw (← c.self.view_is, written_back c.note_each.new.logs _ c.self.inside.logs.len logs, written_back c.touch_each.new.watched _ c.self.inside.watched.len snapshots)
    (room_falls (2 ^ 64 - 1) (length changes) (log_spares c.self.inside.logs.items) (log_spares c.note_each.new.logs) (snapshot_spares c.self.inside.watched.items) (snapshot_spares c.touch_each.new.watched)
    (λ free. rw c.deref_mut.ensures.value at (c.note_each.ensures.room free)) (λ free. rw c.deref_mut-2.ensures.value at (c.touch_each.ensures.room free)))
