use Rattle.std.proofs.Common.{arith, refl, sym}
use Rattle.proc_calls.proofs.Reading.{nothing_arrived, arrivals_are}
use Rattle.proc_calls.proofs.site.ProcSite.position_at.Goals as goal

pub unreachable-requires : goal.unreachable-requires
unreachable-requires c =
    let none = sym (rw c.deref.ensures.value at c.in_default.ensures) in
    let below = rw (← c.self.view_is, nothing_arrived _ _ _ _ _ c.self.invariant refl c.args.origin.now none) at c.requires in
    absurd (omega (arith, below))

pub position_at-requires : goal.position_at-requires
position_at-requires c =
    let found = sym (rw c.deref.ensures.value at c.in-Some.ensures) in
    rw (← c.self.view_is, arrivals_are _ _ _ _ _ c.self.invariant refl c.args.origin.now c.in-Some.inbox.now found) at c.requires

pub returns : goal.returns
returns c =
    let found = sym (rw c.deref.ensures.value at c.in-Some.ensures) in
    rw (← c.self.view_is, arrivals_are _ _ _ _ _ c.self.invariant refl c.args.origin.now c.in-Some.inbox.now found) c.position_at.ensures
