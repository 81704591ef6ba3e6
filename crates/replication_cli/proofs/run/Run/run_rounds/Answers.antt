use Rattle.std.proofs.Common.{arith, ◌+◌, length, sym, ap, ◌∙◌, subst}
use Rattle.std.specs.Prelude.{All}
use Rattle.storm_script.specs.Laws.{IsLine}
use Rattle.replication_cli.specs.Runs.{Running}
use Rattle.replication_cli.proofs.Counting.{number-with_commands}
use Rattle.replication_cli.proofs.Rounds.{round_lines, length-round-le, round-done}
use Rattle.replication_cli.proofs.run.Run.run_rounds.Goals as goal

-- each command of the round is one of a line
pub run_all-requires-clause-lines : goal.run_all-requires-clause-lines
run_all-requires-clause-lines g c κs within =
    subst (All IsLine) (sym (c.deref.ensures.value ∙ c.in_ok-commands.ensures.commands)) (round_lines (c.loop-before.before + 1) c.loop-before.draws.state (omega arith))

-- it has at most five
pub run_all-requires-clause-room : goal.run_all-requires-clause-room
run_all-requires-clause-room g c =
    let size = ap length (c.deref.ensures.value ∙ c.in_ok-commands.ensures.commands) in
    omega (arith, size, length-round-le (c.loop-before.before + 1) c.loop-before.draws.state)

pub loop-before-preserved : goal.loop-before-preserved
loop-before-preserved g c =
    let is = c.deref.ensures.value ∙ c.in_ok-commands.ensures.commands in
    let size = ap length is in
    let more = ap (λ (r : Running). r.number) c.in_ok-run_all.ensures ∙ number-with_commands c.loop-before.self c.deref.result.now in record {
      run = round-done c.loop-before.self c.run_all.new.self _ c.args.count c.loop-before.before c.loop-before.draws.state c.round.new.self.state c.deref.result.now (omega arith) is c.in_ok-run_all.ensures c.in_ok-commands.ensures.state c.loop-before.invariant.run;
      number = omega (arith, more, size, length-round-le (c.loop-before.before + 1) c.loop-before.draws.state);
    }
