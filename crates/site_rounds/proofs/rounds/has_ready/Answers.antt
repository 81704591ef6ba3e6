-- The least ready position tells it, since positions are from 1.
use Rattle.std.proofs.Common.{sym, ap, ◌∙◌}
use Rattle.std.specs.Prelude.{is_some}
use Rattle.site_state.specs.State.{arrivals}
use Rattle.event_laws.proofs.RoundsEnd.{ready_first}
use Rattle.site_rounds.proofs.rounds.has_ready.Goals as goal

pub returns : goal.returns
returns g c =
    let x = c.args.site.now in
    let origin = c.args.origin.now in
    c.is_some.ensures ∙ ap is_some c.lowest_ready.ensures ∙ sym (ready_first origin x (arrivals origin x) c.arrivals_are_from_one.ensures)
