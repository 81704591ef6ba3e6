use Rattle.std.proofs.Common.{◌≡◌, ◌+◌, ap, arith, length}
use Rattle.std.specs.Prelude.{nat_lt}
use Rattle.change_logs.specs.LogState.{LoggedKey}
use Rattle.change_logs.specs.Logs.{count_up_to}
use Rattle.change_logs.proofs.KeysLeft.{rising_left, count_up_to-rest}
use Rattle.change_logs.proofs.log.Log.purge.Goals as goal

pub invariant_of-self : goal.invariant_of-self
invariant_of-self c = rw c.purge.ensures.items (rising_left (λ (logged : LoggedKey). nat_lt c.args.mark logged.moment) c.self.inside.entries.items c.self.invariant)

-- those that stay and those that go are all
parted : (c : goal.After-len) → c.len.result + count_up_to c.args.mark c.self.inside.entries.items ≡ c.len-before.result
parted c = omega (arith, count_up_to-rest c.args.mark c.self.inside.entries.items, ap length c.purge.ensures.items, c.len-before.ensures, c.len.ensures)

pub overflow_sub-result : goal.overflow_sub-result
overflow_sub-result c = omega (arith, parted c)

pub returns-clause-count : goal.returns-clause-count
returns-clause-count c = rw (← c.self.view_is) (omega (arith, parted c))

pub returns-clause-spare : goal.returns-clause-spare
returns-clause-spare c = rw (← c.self.view_is) (omega (arith, parted c, c.purge.ensures.spare, c.len-before.ensures, c.len.ensures))
