-- A line is run as its command's step has it.
use Rattle.std.proofs.lemmas.Result.{err_from_is_err_and}
use Rattle.script_lex.specs.Lines.{HasTokens}
use Rattle.world_run.proofs.LiveRunning.{live_step-goes, live_step-broken}
use Rattle.world_run.proofs.live_script.LiveRunnerLineRunner.run_line.Goals as goal

pub returns-in_err-command-clause-stop : goal.returns-in_err-command-clause-stop
returns-in_err-command-clause-stop g c =
    let p = err_from_is_err_and c.from_residual.result c.from_residual.ensures.1 in
    rw (p.1, p.2) (λ turns may. live_step-broken (HasTokens c.args.line.now) turns c.args.self.now c.args.number c.args.line.now c.in_err-command.field-0.0 c.in_err-command.ensures.read)

pub returns-clause-ok : goal.returns-clause-ok
returns-clause-ok g c =
    rw (← c.self.view_is) (live_step-goes c.self.inside.script c.run.new.self c.args.number c.args.line.now c.in_ok-lines.lines.bytes c.in_ok-command.command c.in_ok-command.ensures.read c.in_ok-lines.ensures.goes)
