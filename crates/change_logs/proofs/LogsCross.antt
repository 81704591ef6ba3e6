-- A log may cross threads.
use denote.Param.Send.{IsSend, sendable}
use Rattle.std.proofs.Crossing.{crosses}
use Rattle.rep_values.specs.contracts.value.Value as value
use Rattle.rep_values.specs.contracts.key.Key as key
use Rattle.ordered_keys.proofs.Crossing.{list_send}
use Rattle.change_logs.specs.contracts.entry.LogEntry as entry
use Rattle.change_logs.specs.contracts.log.Log as log

value_send : IsSend value.the_row
value_send = search sendable depth 30

key_send : IsSend key.the_row
key_send = search (sendable, crosses, value_send) depth 30

entry_send : IsSend entry.the_row
entry_send = search (sendable, key_send) depth 30

pub log_send : IsSend log.the_row
log_send = search (sendable, crosses, list_send, entry_send) depth 30
