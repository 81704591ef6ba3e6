-- What is declared is what the world has, and a refused line leads where its step does.
use Rattle.std.proofs.Common.{sym, ◌∙◌}
use Rattle.script_steps.proofs.Schemas.{schema-done, schema-err}
use Rattle.script_steps.proofs.Worlds.{world_step-told}
use Rattle.script_steps.proofs.steps.Steps.run.Goals.{in-Some-2, in-None-2}
use Rattle.script_steps.proofs.steps.Steps.run.Goals as goal

pub invariant_of-self : goal.invariant_of-self
invariant_of-self c =
    (c.step.ensures.free, c.renew.ensures.shape, c.renew.ensures.value ∙ schema-done _ _ _ _ _ _ _ c.in-Ok.ensures.does c.self.invariant.2 c.in_ok-next.ensures.value)

pub invariant_of-self-then-is_memory : goal.invariant_of-self-then-is_memory
invariant_of-self-then-is_memory c = (c.step.ensures.free, c.self.invariant.1, schema-err _ _ _ _ _ _ c.in-Err.ensures.does c.self.invariant.2)

pub returns-else-is_memory-clause-world : goal.returns-else-is_memory-clause-world
returns-else-is_memory-clause-world c =
    let stepped = world_step-told _ _ _ _ _ (sym c.is_memory.ensures ∙ c.if-is_memory.false) c.in-Err.ensures.does in
    rw (← c.self.view_is) (elim c.match-next-2.branch [ in-Some-2 w ↦ w.self-is ∙ stepped | in-None-2 w ↦ w.self-is ∙ stepped ])
