use Rattle.std.specs.Ordering.{nat_cmp}
use Rattle.std.proofs.lemmas.Cmp.{nat_cmp_total}
use Rattle.rep_lists.proofs.Rising.{rising_put, all_put}
use Rattle.error_queue.specs.declared.entry.ErrorEntry.{ErrorEntry}
use Rattle.error_queue.specs.ErrorLists.{error_beside}
use Rattle.error_queue.proofs.origin_errors.OriginErrors.add.Goals as goal

pub invariant_of-self : goal.invariant_of-self
invariant_of-self c =
    let entries = c.self.inside.entries.items in
    let error = c.args.error in
    let own = rw (← c.self.view_is) at c.requires.own in
    rw c.put_in.ensures.entries (record {
      rising = rising_put (λ (e : ErrorEntry). e.position) nat_cmp nat_cmp_total error entries c.self.invariant.rising;
      own = all_put (error_beside error.position) _ error entries own c.self.invariant.own;
    })
