use Rattle.std.proofs.Common.{rules, ap, sym, subst, refl, ◌∙◌, ◌∷◌, [], Some, ◌+◌, ◌%◌, ◌^◌}
use mathlib.Core.Option.{none}
use Rattle.atomic_table.specs.Table.{rest, Allows, step}
use Rattle.site_gate.specs.Views.{with_turn}
use Rattle.site_gate.specs.Rule.{IsKept}
use Rattle.site_gate.specs.Plays.{Raises}
use Rattle.site_gate.proofs.Leaving.{raises}
use Rattle.site_gate.proofs.gate.SiteGate.put_back.Goals as goal

pub fetch_add-requires : goal.fetch_add-requires
fetch_add-requires g c =
    let h = g.T.Turns.history in
    let o = g.T.Turns.opening in
    let me = c.args.seat.now.me in
    let back = c.exchange.ensures.3 ∙ ap (λ held. (me.0, (0, Some c.args.value) ∷ held)) (ap rest c.requires.held) in
    let slots = c.args.self.now.table.shared.table_id.slots in
    let id = c.exchange.new.seat.id in
    let one = c.requires.one in (
      search rules,
      search rules,
      subst (λ me. Allows (IsKept h o) slots id me 0 (λ n. (n + 1) % 2 ^ 64) (Raises h o (step slots 0 1 0 none) me)) (sym back)
          (raises h o slots id (me.0, (0, Some c.args.value) ∷ []) c.args.ticket.value c.args.value one.0 c.requires.inside refl one.1 c.requires.opening),
    )

pub returns-clause-view : goal.returns-clause-view
returns-clause-view g c =
    let me = c.args.seat.now.me in
    let back = c.exchange.ensures.3 ∙ ap (λ held. (me.0, (0, Some c.args.value) ∷ held)) (ap rest c.requires.held) in
    let told = c.fetch_add.ensures.2 c.args.ticket.value c.args.value (ap (λ m. m.0.stage) back ∙ c.requires.inside) (ap (λ m. m.1) back) in
    told.1 ∙ ap (λ m. with_turn m.0 (g.T.Turns.history c.args.value)) back

pub returns-clause-held : goal.returns-clause-held
returns-clause-held g c =
    let me = c.args.seat.now.me in
    let back = c.exchange.ensures.3 ∙ ap (λ held. (me.0, (0, Some c.args.value) ∷ held)) (ap rest c.requires.held) in
    (c.fetch_add.ensures.2 c.args.ticket.value c.args.value (ap (λ m. m.0.stage) back ∙ c.requires.inside) (ap (λ m. m.1) back)).0
