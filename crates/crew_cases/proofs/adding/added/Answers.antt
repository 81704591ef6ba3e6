use Rattle.std.proofs.Common.{rules, All, subst}
use Rattle.std.proofs.lemmas.List.Elements.{All-tail}
use Rattle.site_gate.specs.Passes.{IsPassOf}
use Rattle.crew_cases.proofs.adding.added.Goals as goal

pub loop-other-preserved : goal.loop-other-preserved
loop-other-preserved g c =
    let others = subst (All (λ pass. IsPassOf c.in-Ok.made.0 pass)) c.in-Some-other.ensures.steps.0 c.loop-other.invariant.others in record {
      gate = search rules;
      opening = search rules;
      others = All-tail (λ pass. IsPassOf c.in-Ok.made.0 pass) c.in-Some-other.other _ others;
    }
