use Rattle.std.proofs.Common.{rules, ◌≡◌, None, sym, ◌∙◌, arith}
use Rattle.page_tables.proofs.InSlots.{holds_there, held_within, row_at-get_or, AreFree-release}
use Rattle.page_tables.proofs.slots.Slots.release.Goals as goal

pub invariant_of-self : goal.invariant_of-self
invariant_of-self c =
    let inside = c.self.inside in
    let held = rw (← c.self.view_is) at c.requires.held in
    let gone : c.replace-row.new.dest ≡ None = search rules in
    (rw (c.push_reserved.ensures.items, gone) (AreFree-release inside.rows.items inside.free.items c.args.slot held c.self.invariant.0), omega (arith, c.push_reserved.ensures.capacity, c.self.invariant.1), c.self.invariant.2)

pub returns-clause-row : goal.returns-clause-row
returns-clause-row c =
    let inside = c.self.inside in
    let held = rw (← c.self.view_is) at c.requires.held in
    let is = row_at-get_or inside.rows.items c.args.slot c.index_mut.result.now (held_within inside.rows.items c.args.slot held) in
    let same : c.replace-row.result ≡ c.index_mut.result.now = search rules in
    rw (← c.self.view_is) (same ∙ (c.index_mut.ensures.value ∙ sym is))

pub returns-clause-here : goal.returns-clause-here
returns-clause-here c =
    let inside = c.self.inside in
    let held = rw (← c.self.view_is) at c.requires.held in
    let gone : c.replace-row.new.dest ≡ None = search rules in
    rw (← c.self.view_is, gone) (holds_there inside.rows.items inside.free.items _ c.args.slot None _ _ held (search rules))
