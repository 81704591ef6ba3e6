-- Notes may cross threads.
use denote.Param.Send.{IsSend, sendable}
use Rattle.std.proofs.Crossing.{crosses}
use Rattle.rep_values.specs.contracts.value.Value as value
use Rattle.rep_values.specs.contracts.key.Key as key
use Rattle.ordered_keys.proofs.Crossing.{list_send}
use Rattle.snapshot_query.specs.contracts.parent.Parent as parent
use Rattle.change_logs.proofs.LogsCross.{log_send}
use Rattle.change_logs.specs.contracts.touched.Touched as touched
use Rattle.change_logs.specs.contracts.watched.Watched as watched
use Rattle.change_logs.specs.contracts.notes.Notes as notes

value_send : IsSend value.the_row
value_send = search sendable depth 30

key_send : IsSend key.the_row
key_send = search (sendable, crosses, value_send) depth 30

parent_send : IsSend parent.the_row
parent_send = search (sendable, crosses) depth 30

touched_send : IsSend touched.the_row
touched_send = search (sendable, crosses, list_send, key_send) depth 30

watched_send : IsSend watched.the_row
watched_send = search (sendable, crosses, parent_send, touched_send) depth 30

pub notes_send : IsSend notes.the_row
notes_send = search (sendable, crosses, log_send, watched_send) depth 30
