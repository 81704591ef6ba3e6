use Rattle.std.proofs.Common.{refl, sym, ap, ◌∙◌, ◌++◌, ◌∷◌, [], None, Some}
use Rattle.parallel_apply.proofs.Crews.{with_quiet, with_applied, ends_here, stays_where_stale}
use Rattle.parallel_apply.proofs.crew.Crew.install.Goals as goal

pub invariant_of-self : goal.invariant_of-self
invariant_of-self g c = (
  with_quiet _ _ _ _ c.self.invariant.0 _ _ (c.pass.ensures ∙ ap (λ ts. ts ++ None ∷ []) c.reserve.ensures.same) refl,
  c.self.invariant.1,
)

pub put_in-requires-clause-ending : goal.put_in-requires-clause-ending
put_in-requires-clause-ending g c κs within =
    rw c.deref_mut.ensures.value (ends_here _ _ _ _ c.self.invariant.0 c.support_outlasts_independent_transactions.ensures c.args.done (rw (← c.self.view_is) at c.requires.earlier))

pub invariant_of-self-in-Ok-true : goal.invariant_of-self-in-Ok-true
invariant_of-self-in-Ok-true g c = (
  with_applied _ _ _ _ c.self.invariant.0 _ _ c.args.done.position (rw (← c.deref_mut.ensures.value) (sym c.in-Ok-true.ensures.ready ∙ c.in-Ok-true.field-0-test))
      (c.apply.ensures ∙ ap (λ ts. ts ++ Some c.args.done.position ∷ []) c.reserve.ensures.same) (rw (← c.deref_mut.ensures.value) c.in-Ok-true.ensures.ok),
  c.self.invariant.1,
)

pub invariant_of-self-in-Ok-false : goal.invariant_of-self-in-Ok-false
invariant_of-self-in-Ok-false g c = (
  with_quiet _ _ _ _ c.self.invariant.0 _ _ (c.pass-in-Ok-false.ensures ∙ ap (λ ts. ts ++ None ∷ []) c.reserve.ensures.same)
      (c.in-Ok-false.ensures.ok ∙ stays_where_stale c.self.inside.origin c.args.done.position c.deref_mut.result.now (sym c.in-Ok-false.ensures.ready ∙ c.in-Ok-false.field-0-test) ∙ c.deref_mut.ensures.value),
  c.self.invariant.1,
)

pub invariant_of-self-in-Err : goal.invariant_of-self-in-Err
invariant_of-self-in-Err g c = (
  with_quiet _ _ _ _ c.self.invariant.0 _ _ (c.pass-in-Err.ensures ∙ ap (λ ts. ts ++ None ∷ []) c.reserve.ensures.same) (c.in-Err.ensures.err ∙ c.deref_mut.ensures.value),
  c.self.invariant.1,
)
