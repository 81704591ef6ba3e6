-- The arrivals up to some place are applied: their positions in turn.
use Rattle.std.proofs.Common.{◌∙◌, take}
use Rattle.site_state.specs.State.{arrivals}
use Rattle.site_state.specs.Steps.{begun}
use Rattle.site_rounds.proofs.Parts.{positions_of, apply_each-in_turn}
use Rattle.site_rounds.proofs.passing.SerialPassing.pass.Goals as goal

pub returns-in-Err : goal.returns-in-Err
returns-in-Err c =
    let part = c.in-Err.ensures.err in
    let arrived = take part.0 (arrivals c.args.origin.now c.args.site) in
    (positions_of arrived, part.1 ∙ apply_each-in_turn c.args.origin.now arrived (begun c.args.site))
