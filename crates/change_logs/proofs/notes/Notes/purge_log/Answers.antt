use Rattle.std.proofs.Common.{◌≡◌, ◌-◌, ◌^◌, List, length, ap, ◌∙◌, arith}
use Rattle.std.specs.List.{filter}
use Rattle.rep_lists.proofs.InPlace.{written_back}
use Rattle.change_logs.specs.LogState.{LogState, purged_where}
use Rattle.change_logs.specs.Noting.{log_of, keys_in}
use Rattle.change_logs.specs.RoomyNotes.{log_in, logs_in, log_spares, snapshot_spares}
use Rattle.change_logs.proofs.Parts.{changed_length}
use Rattle.change_logs.proofs.Room.{room_stays}
use Rattle.change_logs.proofs.TableLogs.{stays, log_of-purged, count_up_to-rest}
use Rattle.change_logs.proofs.notes.Notes.purge_log.Goals as goal

-- as many logs as before
long : (c : goal.After-key_count) → length c.purge_each.new.logs ≡ c.self.inside.logs.len
long c = changed_length log_in (purged_where c.args.table c.args.moment) c.purge_each.new.logs c.deref_mut.result.now c.purge_each.ensures.logs ∙ c.deref_mut.ensures.len

before : (c : goal.After-key_count) → c.key_count-before.result ≡ length (keys_in (log_of c.args.table (logs_in c.self.inside.logs.items)))
before c = rw c.deref.ensures.value at c.key_count-before.ensures

-- those above the moment are left
after : (c : goal.After-key_count) → c.key_count.result ≡ length (filter (stays c.args.moment) (keys_in (log_of c.args.table (logs_in c.self.inside.logs.items))))
after c =
    let now = rw (c.deref-2.ensures.value, written_back c.purge_each.new.logs _ c.self.inside.logs.len (long c)) at c.key_count.ensures in
    let logs = rw c.deref_mut.ensures.value at c.purge_each.ensures.logs in
    now ∙ ap (λ (ls : List LogState). length (keys_in (log_of c.args.table ls))) logs ∙ ap length (log_of-purged c.args.table c.args.moment (logs_in c.self.inside.logs.items))

pub overflow_sub-result : goal.overflow_sub-result
overflow_sub-result c = omega (arith, before c, after c, count_up_to-rest c.args.moment (keys_in (log_of c.args.table (logs_in c.self.inside.logs.items))))

pub returns-clause-count : goal.returns-clause-count
returns-clause-count c =
    rw (← c.self.view_is) (omega (arith, before c, after c, count_up_to-rest c.args.moment (keys_in (log_of c.args.table (logs_in c.self.inside.logs.items)))))

pub returns-clause-room : goal.returns-clause-room
returns-clause-room c =
    let watched = snapshot_spares c.self.inside.watched.items in
    rw (← c.self.view_is, written_back c.purge_each.new.logs _ c.self.inside.logs.len (long c))
    (room_stays (2 ^ 64 - 1) (log_spares c.self.inside.logs.items) (log_spares c.purge_each.new.logs) watched watched (λ free. rw c.deref_mut.ensures.value at (c.purge_each.ensures.room free)) (λ free. omega arith))
