use Rattle.std.specs.Ordering.{nat_cmp}
use Rattle.std.proofs.lemmas.Cmp.{nat_cmp_total}
use Rattle.rep_lists.proofs.Rising.{rising_take, all_take}
use Rattle.error_queue.specs.declared.entry.ErrorEntry.{ErrorEntry}
use Rattle.error_queue.specs.ErrorLists.{error_beside}
use Rattle.error_queue.proofs.origin_errors.OriginErrors.take.Goals as goal

pub invariant_of-self : goal.invariant_of-self
invariant_of-self c =
    let entries = c.self.inside.entries.items in
    let at = error_beside c.args.position in
    rw c.take_out.ensures.entries (record {
      rising = rising_take (λ (e : ErrorEntry). e.position) nat_cmp nat_cmp_total at entries c.self.invariant.rising;
      own = all_take at _ entries c.self.invariant.own;
    })
