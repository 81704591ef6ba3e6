use Rattle.std.proofs.Common.{sym, subst, ◌∙◌}
use Rattle.std.specs.Prelude.{IfSome}
use Rattle.parallel_apply.specs.Crews.{IsClaimAt}
use Rattle.parallel_apply.proofs.Crews.{schema_here, sound_here}
use Rattle.parallel_apply.proofs.crew.Crew.next.Goals as goal

pub claimed-requires-clause-schema : goal.claimed-requires-clause-schema
claimed-requires-clause-schema g c κs within = rw c.deref-2.ensures (c.self.invariant.1 ∙ sym (schema_here _ _ _ _ c.self.invariant.0))

pub claimed-requires-clause-sound : goal.claimed-requires-clause-sound
claimed-requires-clause-sound g c κs within = rw c.deref-2.ensures (sound_here _ _ _ _ c.self.invariant.0)

pub returns-clause-claim : goal.returns-clause-claim
returns-clause-claim g c =
    subst (λ x. IfSome c.claimed.result (IsClaimAt c.self.inside.origin x)) c.self.invariant.0.led (rw (← c.deref-2.ensures) c.claimed.ensures)
