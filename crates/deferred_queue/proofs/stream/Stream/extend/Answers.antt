use Rattle.std.proofs.Common.{[], ◌∷◌, arith}
use Rattle.std.proofs.lemmas.List.{reverse-append}
use Rattle.deferred_queue.proofs.stream.Stream.extend.Goals as goal

-- the new number is above the others
pub invariant_of-self : goal.invariant_of-self
invariant_of-self c =
    let later = rw (← c.self.view_is) at c.requires.later in
    rw (c.push_reserved.ensures.items, reverse-append c.self.inside.entries.items (_ ∷ [])) (c.args.number, (c.requires.from_one, omega arith, later))
