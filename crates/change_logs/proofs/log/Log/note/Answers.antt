use Rattle.rep_lists.proofs.Rising.{rising_put}
use Rattle.rep_values.specs.Order.{key_cmp}
use Rattle.rep_values.specs.OrderLaws.{key_cmp_total}
use Rattle.change_logs.specs.LogState.{LoggedKey}
use Rattle.change_logs.proofs.log.Log.note.Goals as goal

pub invariant_of-self : goal.invariant_of-self
invariant_of-self c = rw c.put_in.ensures.items (rising_put (λ (logged : LoggedKey). logged.key) key_cmp key_cmp_total (record { key = c.args.key; moment = c.args.moment }) c.self.inside.entries.items c.self.invariant)
