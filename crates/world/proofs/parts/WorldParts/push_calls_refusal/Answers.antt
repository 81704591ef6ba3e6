-- Two masters have a direction between them.
use Rattle.std.proofs.Common.{sym, ap, subst, ◌∙◌}
use Rattle.net_plan.specs.Directions.{HasDirection}
use Rattle.world_state.specs.World.{WorldState}
use Rattle.world_state.specs.ProcRefusals.{are_two_masters}
use Rattle.world.proofs.TwoMasters.{two_masters_linked}
use Rattle.world.proofs.parts.WorldParts.push_calls_refusal.Goals as goal

pub is_up-requires : goal.is_up-requires
is_up-requires c =
    let from = c.args.from.now in
    let to = c.args.to.now in
    let two = sym (ap (λ (v : WorldState). are_two_masters from to v.procs) c.self.view_is) ∙ sym c.are_two_masters.ensures ∙ c.if-not-are_two_masters.false in
    subst (λ (v : WorldState). HasDirection v.net from to) (sym c.self.view_is) (two_masters_linked c.args.self.now c.requires.built c.requires.behind from to two).there
