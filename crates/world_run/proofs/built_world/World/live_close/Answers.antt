-- The master is put in its place again, and its marks go to the others.
use Rattle.std.proofs.Common.{Some, sym, ap, ◌∙◌}
use Rattle.std.specs.Prelude.{Option}
use Rattle.std.proofs.lemmas.Result.{on_ok_weaker}
use Rattle.world_run.specs.declared.built_world.World.TheInside.{Inside}
use Rattle.world_run.specs.Lent.{LentSite, with_lent}
use Rattle.world_run.proofs.Lent.{if_not_err, kept_back, back_built, closed_built, closed_is}
use Rattle.world_run.proofs.built_world.World.live_close.Goals as goal

pub live_close-requires-clause-built : goal.live_close-requires-clause-built
live_close-requires-clause-built c =
    back_built c.self.inside.lent c.self.inside.parts c.args.self.now c.self.view_is c.self.invariant.1 _ (ap (λ (l : LentSite). Some l) c.lent.view_is ∙ c.in-Some.ensures.value ∙ ap (λ (i : Inside). i.lent) c.self-inside.view_is)
    _ (ap (λ (i : Inside). i.parts) c.self-inside.view_is)
    c.args.site _ (c.insert.ensures.items ∙ if_not_err c.insert.result _ _ (sym c.is_err.ensures.value ∙ c.if-is_err.false)) c.requires

pub invariant_of-self-2 : goal.invariant_of-self-2
invariant_of-self-2 c =
    kept_back c.replace.new.dest c.live_close.new.parts c.replace.ensures.after
    (closed_built c.self.inside.lent c.self.inside.parts c.args.self.now c.self.view_is c.self.invariant.1 _ (ap (λ (l : LentSite). Some l) c.lent.view_is ∙ c.in-Some.ensures.value ∙ ap (λ (i : Inside). i.lent) c.self-inside.view_is)
    _ (ap (λ (i : Inside). i.parts) c.self-inside.view_is)
    c.args.site _ (c.insert.ensures.items ∙ if_not_err c.insert.result _ _ (sym c.is_err.ensures.value ∙ c.if-is_err.false)) c.live_close.new.parts c.requires c.live_close.ensures.part)

pub returns-clause-stays_built : goal.returns-clause-stays_built
returns-clause-stays_built c =
    (kept_back c.replace.new.dest c.live_close.new.parts c.replace.ensures.after
    (closed_built c.self.inside.lent c.self.inside.parts c.args.self.now c.self.view_is c.self.invariant.1 _ (ap (λ (l : LentSite). Some l) c.lent.view_is ∙ c.in-Some.ensures.value ∙ ap (λ (i : Inside). i.lent) c.self-inside.view_is)
    _ (ap (λ (i : Inside). i.parts) c.self-inside.view_is)
    c.args.site _ (c.insert.ensures.items ∙ if_not_err c.insert.result _ _ (sym c.is_err.ensures.value ∙ c.if-is_err.false)) c.live_close.new.parts c.requires c.live_close.ensures.part)).0

pub returns-clause-world : goal.returns-clause-world
returns-clause-world c name named =
    on_ok_weaker c.live_close.result (λ closed. ap (λ (o : Option LentSite). with_lent o c.live_close.new.parts) c.replace.ensures.after
    ∙ closed_is c.self.inside.lent c.self.inside.parts c.args.self.now c.self.view_is c.self.invariant.1 _ (ap (λ (l : LentSite). Some l) c.lent.view_is ∙ c.in-Some.ensures.value ∙ ap (λ (i : Inside). i.lent) c.self-inside.view_is)
    _ (ap (λ (i : Inside). i.parts) c.self-inside.view_is)
    c.args.site _ (c.insert.ensures.items ∙ if_not_err c.insert.result _ _ (sym c.is_err.ensures.value ∙ c.if-is_err.false)) name named c.live_close.new.parts closed)
    c.live_close.ensures.ok
