use Rattle.std.proofs.Common.{sym, ◌∙◌}
use Rattle.site_state.specs.State.{arrivals}
use Rattle.parallel_apply.proofs.Crews.{first_is_ready}
use Rattle.parallel_apply.proofs.claims.Claims.next_ahead.Goals as goal

pub returns-then-not-is_worked_on : goal.returns-then-not-is_worked_on
returns-then-not-is_worked_on g c =
    first_is_ready c.args.origin.now c.loop.self.ahead c.args.site.now (arrivals c.args.origin.now c.args.site.now) c.in-Some.position (sym c.lowest_ready.ensures ∙ c.in-Some.is)
