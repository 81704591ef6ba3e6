use Rattle.std.proofs.Common.{refl, sym}
use Rattle.error_queue.proofs.FirstLists.{list_of-place, list_of-none}
use Rattle.error_queue.proofs.errors.Errors.get.Goals as goal

pub returns-in-Some : goal.returns-in-Some
returns-in-Some c =
    let found = rw c.deref.ensures.value at c.in-Some.ensures in
    rw (← c.self.view_is, list_of-place _ _ _ _ found c.index.ensures) c.get.ensures

pub returns-in-None : goal.returns-in-None
returns-in-None c =
    let none = rw c.deref.ensures.value at c.in-None.ensures in
    rw (← c.self.view_is, list_of-none c.args.origin.now c.self.inside.lists.items (sym none)) refl
