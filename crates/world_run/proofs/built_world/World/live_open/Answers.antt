-- The master is there once all came in, and is taken out.
use Rattle.std.proofs.Common.{refl, sym, ap, ◌∙◌, subst}
use Rattle.site_events.specs.Cluster.{site_of}
use Rattle.world.specs.Following.{IsBuilt}
use Rattle.world_push.specs.Lending.{live_opened}
use Rattle.world_run.specs.declared.built_world.World.TheInside.{Inside}
use Rattle.world_run.specs.Lent.{LentWorld}
use Rattle.world_run.proofs.Lent.{seen_is, came_built, kept_free, is_there_opened, with_taken, taken_found, kept_lent, lent_masters_may_come_back}
use Rattle.world_run.proofs.built_world.World.live_open.Goals as goal

pub invariant_of-self : goal.invariant_of-self
invariant_of-self c =
    kept_free c.self.inside.lent c.self.inside.parts c.args.self.now c.self.view_is c.requires.free c.live_open.new.parts
    (came_built c.self.inside.lent c.self.inside.parts c.args.self.now c.self.view_is c.requires.free c.args.name.now c.live_open.new.parts c.self.invariant.0 c.requires.passes c.in_err-live_open.ensures.err)

pub returns-in_err-live_open-clause-stays_built : goal.returns-in_err-live_open-clause-stays_built
returns-in_err-live_open-clause-stays_built c =
    (kept_free c.self.inside.lent c.self.inside.parts c.args.self.now c.self.view_is c.requires.free c.live_open.new.parts
    (came_built c.self.inside.lent c.self.inside.parts c.args.self.now c.self.view_is c.requires.free c.args.name.now c.live_open.new.parts c.self.invariant.0 c.requires.passes c.in_err-live_open.ensures.err)).0

pub unreachable-requires : goal.unreachable-requires
unreachable-requires c =
    let name = c.args.name.now in
    let seen = seen_is c.self.inside.lent c.self.inside.parts c.args.self.now c.self.view_is c.requires.free in
    is_there_opened name c.args.self.now.world _ c.requires.passes (ap (λ (i : Inside). i.parts) c.self-inside.view_is ∙ c.in_ok-live_open.ensures.ok ∙ ap (live_opened name) seen)
    (sym (ap (site_of name) c.deref.ensures.value) ∙ c.in_default.ensures)

pub invariant_of-self-2 : goal.invariant_of-self-2
invariant_of-self-2 c =
    let name = c.args.name.now in
    let seen = seen_is c.self.inside.lent c.self.inside.parts c.args.self.now c.self.view_is c.requires.free in
    let at = rw c.deref.ensures.value at c.in-Some.ensures in
    kept_lent name c.args.self.now.world _ (subst IsBuilt (ap (λ (u : LentWorld). u.world) c.self.view_is) c.self.invariant.0) c.requires.passes
    (ap (λ (i : Inside). i.parts) c.self-inside.view_is ∙ c.in_ok-live_open.ensures.ok ∙ ap (live_opened name) seen)
    c.in-Some.place at.is at.within at.site at.found at.there c.remove-site.result c.of.result.value c.remove-site.ensures.value c.of.ensures _ c.remove-site.ensures.items

pub returns-clause-stays_built : goal.returns-clause-stays_built
returns-clause-stays_built c =
    let name = c.args.name.now in
    let seen = seen_is c.self.inside.lent c.self.inside.parts c.args.self.now c.self.view_is c.requires.free in
    let at = rw c.deref.ensures.value at c.in-Some.ensures in
    (kept_lent name c.args.self.now.world _ (subst IsBuilt (ap (λ (u : LentWorld). u.world) c.self.view_is) c.self.invariant.0) c.requires.passes
    (ap (λ (i : Inside). i.parts) c.self-inside.view_is ∙ c.in_ok-live_open.ensures.ok ∙ ap (live_opened name) seen)
    c.in-Some.place at.is at.within at.site at.found at.there c.remove-site.result c.of.result.value c.remove-site.ensures.value c.of.ensures _ c.remove-site.ensures.items).0

pub returns-clause-site : goal.returns-clause-site
returns-clause-site c =
    let name = c.args.name.now in
    let seen = seen_is c.self.inside.lent c.self.inside.parts c.args.self.now c.self.view_is c.requires.free in
    let at = rw c.deref.ensures.value at c.in-Some.ensures in
    taken_found name c.args.self.now.world _ (subst IsBuilt (ap (λ (u : LentWorld). u.world) c.self.view_is) c.self.invariant.0) c.requires.passes
    (ap (λ (i : Inside). i.parts) c.self-inside.view_is ∙ c.in_ok-live_open.ensures.ok ∙ ap (live_opened name) seen)
    c.in-Some.place at.is at.within at.site at.found at.there c.remove-site.result c.of.result.value c.remove-site.ensures.value c.of.ensures _ c.remove-site.ensures.items

pub returns-clause-back : goal.returns-clause-back
returns-clause-back c =
    let name = c.args.name.now in
    let seen = seen_is c.self.inside.lent c.self.inside.parts c.args.self.now c.self.view_is c.requires.free in
    let at = rw c.deref.ensures.value at c.in-Some.ensures in
    let built : IsBuilt c.args.self.now.world = subst IsBuilt (ap (λ (u : LentWorld). u.world) c.self.view_is) c.self.invariant.0 in
    let opened = ap (λ (i : Inside). i.parts) c.self-inside.view_is ∙ c.in_ok-live_open.ensures.ok ∙ ap (live_opened name) seen in
    lent_masters_may_come_back name c.args.self.now _ c.remove-site.result built c.requires.passes
    (with_taken name c.args.self.now.world _ built c.requires.passes opened
    c.in-Some.place at.is at.within at.site at.found at.there c.remove-site.result c.of.result.value c.remove-site.ensures.value c.of.ensures _ c.remove-site.ensures.items) refl
    (taken_found name c.args.self.now.world _ built c.requires.passes opened
    c.in-Some.place at.is at.within at.site at.found at.there c.remove-site.result c.of.result.value c.remove-site.ensures.value c.of.ensures _ c.remove-site.ensures.items)
