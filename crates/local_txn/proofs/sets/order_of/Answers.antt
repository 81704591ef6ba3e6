use Rattle.std.proofs.Common.{sym}
use Rattle.local_txn.proofs.SetWalk.{value_cmp-same}
use Rattle.rep_values.specs.declared.value.Value.TheVariants.{Words}
use Rattle.local_txn.proofs.sets.order_of.Goals as goal

pub returns-in-Add-Words : goal.returns-in-Add-Words
returns-in-Add-Words c = rw (c.in-Add-Words.is-0, c.in-Add-Words.is-1) (sym (value_cmp-same (Words c.in-Add-Words.field-0-1)))
