use Rattle.rep_lists.proofs.Rising.{rising_put}
use Rattle.rep_values.specs.Order.{key_cmp}
use Rattle.rep_values.specs.OrderLaws.{key_cmp_total}
use Rattle.rep_schema.specs.Tables.{Cells}
use Rattle.change_logs.proofs.touched.Touched.put.Goals as goal

pub invariant_of-self : goal.invariant_of-self
invariant_of-self c = λ rising. rw c.put_in.ensures.items (rising_put (λ (k : Cells). k) key_cmp key_cmp_total c.args.key c.self.inside.keys.items (c.self.invariant rising))
