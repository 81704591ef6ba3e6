use Rattle.std.proofs.Common.{◌+◌, ap}
use Rattle.proc_calls.proofs.Trails.{counted_more}
use Rattle.proc_calls.proofs.trail.Trail.push.Goals as goal

pub invariant_of-self : goal.invariant_of-self
invariant_of-self c =
    let inside = c.self.inside in
    rw c.push_reserved.ensures.items (counted_more inside.changes.items c.args.change inside.taken (inside.taken + c.taken_by.result) c.self.invariant (ap (λ n. inside.taken + n) c.taken_by.ensures))
