use Rattle.std.proofs.Common.{rules, ◌≡◌, [], ◌∷◌, ◌++◌, Some, subst, ◌∙◌}
use Rattle.std.specs.Prelude.{vec_capacity}
use Rattle.page_tables.specs.Slots.{AreFree}
use Rattle.page_tables.proofs.InSlots.{free_none, holds_last, holds_new, AreFree-hold}
use Rattle.page_tables.proofs.slots.Slots.hold.Goals as goal

pub invariant_of-self : goal.invariant_of-self
invariant_of-self c =
    let inside = c.self.inside in
    let same : vec_capacity c.pop.new.self ≡ vec_capacity inside.free = search rules in
    (AreFree-hold inside.rows.items c.pop.new.self.items c.in-Some.slot c.replace.new.dest (subst (AreFree inside.rows.items) c.in-Some.ensures.items c.self.invariant.0), rw same c.self.invariant.1, c.self.invariant.2)

pub returns-in-Some-clause-none : goal.returns-in-Some-clause-none
returns-in-Some-clause-none c =
    let inside = c.self.inside in
    let same : c.replace.result ≡ c.index_mut.result.now = search rules in
    same ∙ (c.index_mut.ensures.value ∙ free_none inside.rows.items c.pop.new.self.items c.in-Some.slot c.index_mut.result.now (subst (AreFree inside.rows.items) c.in-Some.ensures.items c.self.invariant.0))

pub returns-in-Some-clause-here : goal.returns-in-Some-clause-here
returns-in-Some-clause-here c =
    let inside = c.self.inside in
    let is : c.replace.new.dest ≡ Some c.args.row = search rules in
    rw (← c.self.view_is, is) (holds_last inside.rows.items inside.free.items c.pop.new.self.items c.in-Some.slot (Some c.args.row) _ _ c.in-Some.ensures.items c.self.invariant.0 (search rules))

pub returns-in-None-clause-here : goal.returns-in-None-clause-here
returns-in-None-clause-here c =
    let inside = c.self.inside in
    let none : inside.free.items ≡ [] = search rules in
    let rows : c.push_reserved.new.self.items ≡ inside.rows.items ++ _ ∷ [] = c.push_reserved.ensures.items in
    rw (← c.self.view_is, rows) (holds_new inside.rows.items inside.free.items c.pop.new.self.items _ _ _ none (search rules))
