use Rattle.std.proofs.Common.{rules, ◌≡◌, ◌+◌, false, sym, subst}
use Rattle.report_text.specs.Refusals.{is_memory}
use Rattle.replication_cli.specs.Runs.{Running, IsCounted, with_command}
use Rattle.replication_cli.proofs.NamedBlocks.{named_behind, named_still}
use Rattle.replication_cli.proofs.Room.{IsCounted-more, IsCounted-with_outcome, IsCounted-with_refusal}
use Rattle.replication_cli.proofs.Stepping.{with_command-done, with_command-told}
use Rattle.replication_cli.proofs.TextsTell.{outcome_counted}
use Rattle.replication_cli.proofs.run.Run.run.Goals as goal

-- one command more was run, and what came of it was counted
pub invariant_of-self : goal.invariant_of-self
invariant_of-self g c = (
  subst (IsCounted (c.self.inside.number + 1)) (sym c.add.ensures.counted)
      (IsCounted-with_outcome c.self.inside.number c.self.inside.tally c.in-Ok.answer.outcome c.add.ensures.fits c.self.invariant.0),
  c.step.ensures.free,
  named_behind c.self.inside.number c.args.command.now c.self.inside.world.world c.step.new.world.world c.in-Ok.answer c.requires.line.formed c.in-Ok.ensures.does c.self.invariant.2,
)

-- one for which there was no memory
pub invariant_of-self-in-Memory : goal.invariant_of-self-in-Memory
invariant_of-self-in-Memory g c = (
  IsCounted-more c.self.inside.number c.self.inside.tally c.self.invariant.0,
  c.step.ensures.free,
  named_still c.self.inside.number c.args.command.now c.self.inside.world.world c.step.new.world.world c.in-Err.refused c.in-Err.ensures.does c.self.invariant.2,
)

-- one that was refused
pub invariant_of-self-in-Err : goal.invariant_of-self-in-Err
invariant_of-self-in-Err g c = (
  subst (IsCounted (c.self.inside.number + 1)) (sym c.refuse.ensures) (IsCounted-with_refusal c.self.inside.number c.self.inside.tally c.self.invariant.0),
  c.step.ensures.free,
  named_still c.self.inside.number c.args.command.now c.self.inside.world.world c.step.new.world.world c.in-Err.refused c.in-Err.ensures.does c.self.invariant.2,
)

-- so one that was done is counted as what it prints
pub returns-in-Ok : goal.returns-in-Ok
returns-in-Ok g c =
    let before : Running = record { world = c.self.inside.world.world; number = c.self.inside.number; tally = c.self.inside.tally } in
    subst (λ (r : Running). ◌≡◌ {A = Running} (record { world = c.step.new.world.world; number = c.self.inside.number + 1; tally = c.add.new.self }) (with_command r c.args.command.now)) c.self.view_is
    (with_command-done before c.step.new.world.world c.add.new.self c.in-Ok.answer c.args.command.now c.in-Ok.ensures.does
    (outcome_counted before.number before.tally c.add.new.self c.args.command.now before.world c.step.new.world.world c.in-Ok.answer c.requires.line.formed c.self.invariant.2 c.in-Ok.ensures.does c.add.ensures.fits c.add.ensures.counted))

-- the command was refused, and not for want of memory
pub returns-in_default : goal.returns-in_default
returns-in_default g c =
    let told : is_memory c.in-Err.refused.refusal ≡ false = search rules in
    let before : Running = record { world = c.self.inside.world.world; number = c.self.inside.number; tally = c.self.inside.tally } in
    subst (λ (r : Running). ◌≡◌ {A = Running} (record { world = c.step.new.world.world; number = c.self.inside.number + 1; tally = c.refuse.new.self }) (with_command r c.args.command.now)) c.self.view_is
    (with_command-told before c.step.new.world.world c.refuse.new.self c.args.command.now c.in-Err.refused told c.in-Err.ensures.does c.refuse.ensures)
