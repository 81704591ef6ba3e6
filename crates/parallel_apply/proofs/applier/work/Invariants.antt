use Rattle.std.specs.Prelude.{IfSome}
use Rattle.site_gate.specs.Passes.{IsPassOf, opening_of, seen_by}
use Rattle.parallel_apply.specs.Turns.{site_after_crew}
use Rattle.parallel_apply.specs.Crews.{IsClaimAt}
use Rattle.parallel_apply.proofs.applier.work.Given as goal

-- the pass is the gate's, and what was claimed is so after the turns that it has seen
abbrev pub invariant-loop : goal.invariant-loop
invariant-loop g l = IsPassOf l.gate l.pass
    × IfSome (opening_of l.pass) (λ o. IfSome l.claim (IsClaimAt o.origin (site_after_crew o.origin (seen_by l.pass) o.site)))
