-- A line is run as its command's step has it.
use Rattle.std.proofs.Common.{◌≡◌, ℕ, List, sym, subst}
use Rattle.std.proofs.lemmas.Result.{err_from_is_err_and}
use Rattle.script_drive.specs.Runs.{goes}
use Rattle.script_lex.specs.Lines.{HasTokens}
use Rattle.script_parse.proofs.NamedLines.{parsed-Ok}
use Rattle.world_run.specs.Scripts.{script_step}
use Rattle.world_run.proofs.Steps.{script_step-done, script_step-told, script_step-broken}
use Rattle.world_run.proofs.runner.RunnerLineRunner.run_line.Goals as goal

pub returns-in_err-command-clause-stop : goal.returns-in_err-command-clause-stop
returns-in_err-command-clause-stop g c =
    let p = err_from_is_err_and c.from_residual.result c.from_residual.ensures.1 in
    rw (p.1, p.2) (λ choices may. script_step-broken (HasTokens c.args.line.now) c.args.self.now c.args.number c.args.line.now c.in_err-command.field-0.0 c.in_err-command.ensures.read)

pub step_by-requires-clause-named : goal.step_by-requires-clause-named
step_by-requires-clause-named g c = parsed-Ok c.args.line.now c.in_ok-command.command c.in_ok-command.ensures.read

pub returns-in-Ok-clause-ok : goal.returns-in-Ok-clause-ok
returns-in-Ok-clause-ok g c =
    rw (← c.self.view_is) (λ choices may. (tt, script_step-done c.self.inside.world.world c.step_by.new.self.world c.args.number c.args.line.now c.in-Ok.answer c.in_ok-command.command c.in_ok-command.ensures.read c.in-Ok.ensures.does))

pub returns-clause-ok : goal.returns-clause-ok
returns-clause-ok g c =
    let told = c.in_ok-lines-in-Err.ensures in
    rw (← c.self.view_is) (λ choices may. (
      tt,
      subst (λ (bytes : List ℕ). script_step c.self.inside.world.world c.args.number c.args.line.now ≡ goes c.step_by.new.self.world bytes) (sym told.0)
          (script_step-told c.self.inside.world.world c.step_by.new.self.world c.args.number c.args.line.now c.in_ok-command.command c.in-Err.refused c.in_ok-command.ensures.read told.1 c.in-Err.ensures.does),
    ))
