-- A line that is refused before it is tried.
use Rattle.std.proofs.Common.{◌≡◌, Some, sym, inr, subst}
use Rattle.world_state.specs.World.{WorldState}
use Rattle.world.specs.Precheck.{precheck_refusal}
use Rattle.world.specs.Doing.{IsRefused}
use Rattle.world.proofs.Prechecks.{precheck_refused}
use Rattle.world_run.proofs.lines.run_or_refuse.Goals as goal

pub returns-in-Some-clause-does : goal.returns-in-Some-clause-does
returns-in-Some-clause-does g c =
    let w = c.args.parts.now in
    let known : precheck_refusal c.args.command.now w ≡ Some c.in-Some.refusal = cc c.in-Some.ensures in
    inr (subst (λ (v : WorldState). IsRefused c.args.line c.args.command.now w v (record { line = c.args.line; refusal = c.in-Some.refusal })) (sym c.refuse.ensures)
    (precheck_refused c.args.line c.args.command.now w c.in-Some.refusal known))
