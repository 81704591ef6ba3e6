use Rattle.change_logs.specs.Noting.{logged_above, keys_changed, keys_in, log_of}
use Rattle.change_logs.proofs.RisingKeys.{rising-with_keys}
use Rattle.change_logs.proofs.Lending.{lent_return}
use Rattle.change_logs.proofs.laws.snapshot_laws.Goals as goal

pub returns-clause-lent : goal.returns-clause-lent
returns-clause-lent c = lent_return

pub returns-clause-pending : goal.returns-clause-pending
returns-clause-pending c = λ logs snapshot rising. rising-with_keys (logged_above snapshot.mark (keys_in (log_of snapshot.table logs))) snapshot.touched rising

pub returns-clause-touched : goal.returns-clause-touched
returns-clause-touched c = λ schema changes snapshot rising. rising-with_keys (keys_changed schema snapshot.table changes) snapshot.touched rising
